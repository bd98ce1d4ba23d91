-- What a layout is read from, and what is read.
use Rattle.std.specs.Prelude.{ℕ, ◌≡◌, List, Ok}
use Rattle.arch_file.specs.declared.arch.Arch.{Arch}
use Rattle.arch_file.specs.Arch.{IsArch, arch_of}
use Rattle.blif.specs.CircuitOf.{IsLawfulFor, circuit_of}
use Rattle.grid.specs.declared.Strip.{Strip}
use Rattle.layout_files.specs.LayoutFiles.{AreFilesOf}
use Rattle.layout_verdict.specs.declared.shape.StripShape.{StripShape}
use Rattle.layout_verdict.specs.declared.laid_circuit.LaidCircuit.{LaidCircuit}

-- the shape of a strip, and the bytes of an architecture, of a netlist and of a layout's three
-- files
pub record Texts : Type 0 where
  pub shape : StripShape
  pub arch : List ℕ
  pub netlist : List ℕ
  pub net : List ℕ
  pub place : List ℕ
  pub route : List ℕ

-- the strip of that shape, with the architecture's pads
abbrev pub strip_of : StripShape → Arch → Strip
strip_of shape arch = record { width = shape.columns; rows = shape.rows; io_rat = arch.io_rat }

-- The architecture and the circuit are those that their texts mean, and lawful, as each is that is
-- read; and the three files are the print of the layout.
pub record IsReadFrom (texts : Texts) (laid : LaidCircuit) : Type 0 where
  pub arch : arch_of texts.arch texts.shape.tracks ≡ Ok laid.arch
  pub circuit : circuit_of texts.netlist laid.arch.lut_size ≡ Ok laid.circuit
  pub strip : laid.strip ≡ strip_of texts.shape laid.arch
  pub files : AreFilesOf laid.circuit laid.arch laid.strip texts.net texts.place texts.route laid.layout
  pub arch_lawful : IsArch laid.arch
  pub circuit_lawful : IsLawfulFor laid.arch.lut_size laid.circuit
