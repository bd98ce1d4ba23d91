-- What a verdict says.
use Rattle.std.specs.Prelude.{◌≡◌, ⊤, Ok, Err}
use Rattle.arch_file.specs.declared.arch.Arch.{Arch}
use Rattle.arch_file.specs.Arch.{arch_of}
use Rattle.blif.specs.CircuitOf.{circuit_of}
use Rattle.implements.specs.Implements.{Implements as IsImplementedBy}
use Rattle.layout_files.specs.Fitting.{FitsFiles, HasFileNames}
use Rattle.layout_verdict.specs.Texts.{IsReadFrom, Texts}
use Rattle.layout_verdict.specs.declared.laid_circuit.LaidCircuit.{LaidCircuit}
use Rattle.layout_verdict.specs.declared.verdict.Verdict.{Verdict}
use Rattle.layout_verdict.specs.declared.verdict.Verdict.TheVariants.{Implements, Differs, ArchRefused, NetlistRefused, FilesRefused, NoMemory}

-- the layout implements the circuit
abbrev pub IsImplemented : LaidCircuit → Type 0
IsImplemented laid = IsImplementedBy laid.circuit laid.arch laid.strip laid.layout

-- the names of the circuit and the numbers of the layout are such as files can say
pub record CanBeFiled (laid : LaidCircuit) : Type 0 where
  pub names : HasFileNames laid.circuit
  pub fits : FitsFiles laid.circuit laid.arch laid.layout

-- no layout is read from these texts
abbrev pub HaveNoLayout : Texts → Type 0
HaveNoLayout texts = (laid : LaidCircuit) → IsReadFrom texts laid → CanBeFiled laid → ⊥

-- nothing but this is read from these texts
abbrev pub IsOnlyReading : Texts → LaidCircuit → Type 0
IsOnlyReading texts laid = (other : LaidCircuit) → IsReadFrom texts other → CanBeFiled other → other ≡ laid

-- What was read, and nothing else can be, implements its circuit, or doesn't; or the text of the
-- architecture or of the netlist has this fault; or the three files are the print of no layout.
abbrev pub IsVerdict : Texts → Verdict → Type 0
IsVerdict texts (Implements laid) = IsReadFrom texts laid × IsImplemented laid × IsOnlyReading texts laid
IsVerdict texts (Differs laid wrong) = IsReadFrom texts laid × (IsImplemented laid → ⊥) × IsOnlyReading texts laid
IsVerdict texts (ArchRefused fault) = arch_of texts.arch texts.shape.tracks ≡ Err fault
IsVerdict texts (NetlistRefused fault) = (arch : Arch) × (arch_of texts.arch texts.shape.tracks ≡ Ok arch) × (circuit_of texts.netlist arch.lut_size ≡ Err fault)
IsVerdict texts (FilesRefused fault) = HaveNoLayout texts
IsVerdict texts NoMemory = ⊤
