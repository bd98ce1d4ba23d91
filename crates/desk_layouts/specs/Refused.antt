-- Why a tool ends without its text.
use Rattle.std.specs.Prelude.{ℕ, ◌≡◌, Bool, true, List, Option, Ok, Err, ⊤}
use Rattle.desk_layouts.specs.Prelude.{Arch, arch_of, circuit_of, BlifFault, Outcome, ArchRefused, FileFailed, LayoutRefused, NetlistRefused, NoMemory, OtherCircuit, OutputFailed, FileRole, Architecture, Netlist, Net, Places, Routes, Verilog, IsReadFrom, Texts, CanBeFiled, HaveNoLayout, IsImplemented, IsOnlyReading, LaidCircuit, StripShape}
use Rattle.desk_layouts.specs.Asked.{IsAskedShape}
use Rattle.desk_layouts.specs.Checked.{AreRead, IsLaidIn, texts_with}
use Rattle.desk_layouts.specs.declared.given_files.GivenFiles.{GivenFiles}
use Rattle.desk_layouts.specs.declared.layout_input.LayoutPaths.{LayoutPaths}

-- the texts are read, and nothing else is read from them, but the layout does not implement the
-- circuit
pub record AreOfAnother (texts : Texts) : Type 0 where
  pub laid : LaidCircuit
  pub read : IsReadFrom texts laid
  pub differs : IsImplemented laid → ⊥
  pub only : IsOnlyReading texts laid

-- the netlist has a fault
pub record HasNetlistFault (texts : Texts) : Type 0 where
  pub arch : Arch
  pub fault : BlifFault
  pub read : arch_of texts.arch texts.shape.tracks ≡ Ok arch
  pub refused : circuit_of texts.netlist arch.lut_size ≡ Err fault

-- why the texts are refused: the architecture or the netlist has a fault, or the three files are
-- the print of no layout, or of one that does not implement the circuit; or memory ran out
abbrev pub IsRefusalOf : Texts → Outcome → Type 0
IsRefusalOf texts (ArchRefused fault) = arch_of texts.arch texts.shape.tracks ≡ Err fault
IsRefusalOf texts NetlistRefused = HasNetlistFault texts
IsRefusalOf texts (LayoutRefused fault) = HaveNoLayout texts
IsRefusalOf texts OtherCircuit = AreOfAnother texts
IsRefusalOf texts NoMemory = ⊤
IsRefusalOf texts other = ⊥

-- The files with these bytes are refused for this cause, and they are not the print of a layout
-- that implements the circuit.
pub record AreRefused (paths : LayoutPaths) (given : GivenFiles) (outcome : Outcome) : Type 0 where
  pub shape : StripShape
  pub asked : IsAskedShape paths shape
  pub cause : IsRefusalOf (texts_with given shape) outcome
  pub none : (laid : LaidCircuit) → IsLaidIn paths given laid → CanBeFiled laid → ⊥

-- the files with these bytes are refused, or memory ran out
abbrev pub IsRefusal : LayoutPaths → GivenFiles → Outcome → Type 0
IsRefusal paths given NoMemory = ⊤
IsRefusal paths given other = AreRefused paths given other

-- the file with this role failed; `written` is what is known of the one that is written
abbrev pub HasFailed : (List ℕ → Type 0) → Type 0 → LayoutPaths → FileRole → Type 0
HasFailed fails written paths Architecture = fails paths.arch.now
HasFailed fails written paths Netlist = fails paths.netlist.now
HasFailed fails written paths Net = fails paths.net.now
HasFailed fails written paths Places = fails paths.place.now
HasFailed fails written paths Routes = fails paths.route.now
HasFailed fails written paths Verilog = written
HasFailed fails written paths other = ⊥

-- a file could not be read, or memory ran out
abbrev pub IsUnread : (List ℕ → Type 0) → LayoutPaths → Outcome → Type 0
IsUnread fails paths NoMemory = ⊤
IsUnread fails paths (FileFailed role) = HasFailed fails ⊥ paths role
IsUnread fails paths other = ⊥

-- the files at the paths are read and refused
pub record AreReadAndRefused (text : List ℕ → Option (List ℕ)) (paths : LayoutPaths) (outcome : Outcome) : Type 0 where
  pub given : GivenFiles
  pub read : AreRead text paths given
  pub refused : AreRefused paths given outcome

-- Why a tool ends without its text: a file or the output failed, memory ran out, or the files are
-- refused.
abbrev pub IsFailure : (List ℕ → Type 0) → Type 0 → (List ℕ → Option (List ℕ)) → Bool → LayoutPaths → Outcome → Type 0
IsFailure fails written text failed paths NoMemory = ⊤
IsFailure fails written text failed paths (FileFailed role) = HasFailed fails written paths role
IsFailure fails written text failed paths OutputFailed = failed ≡ true
IsFailure fails written text failed paths other = AreReadAndRefused text paths other
