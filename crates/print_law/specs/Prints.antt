-- The three files of a routed tenancy, and what a reader says of them.
use Rattle.std.specs.Prelude.{ℕ, ◌≡◌, ◌≢◌, ⊤, List, All, Ok, codes}
use Rattle.arch_file.specs.Arch.{IsArch, arch_of}
use Rattle.blif.specs.CircuitOf.{circuit_of}
use Rattle.blif.specs.declared.circuit.Circuit.{Circuit}
use Rattle.implements.specs.Implements.{Implements as IsImplementedBy}
use Rattle.implements.specs.Layouts.{Layout}
use Rattle.layout_files.specs.Cursors.{IsPlain}
use Rattle.layout_files.specs.Fitting.{FitsFiles}
use Rattle.layout_files.specs.LayoutFiles.{HasPrintedForm}
use Rattle.layout_text.specs.LayoutText.{net_text, place_text, route_text}
use Rattle.layout_verdict.specs.Texts.{Texts, strip_of}
use Rattle.layout_verdict.specs.Verdicts.{IsImplemented}
use Rattle.layout_verdict.specs.declared.verdict.Verdict.{Verdict}
use Rattle.layout_verdict.specs.declared.verdict.Verdict.TheVariants.{Implements, Differs, ArchRefused, NetlistRefused, FilesRefused, NoMemory}
use Rattle.tenant_slot.specs.SingleUser.{State, answer_to}
use Rattle.tenant_slot.specs.declared.command.Command.{Command}
use Rattle.tenant_slot.specs.declared.command.Command.TheVariants.{Net, PlaceFile, RouteFile}
use Rattle.tenant_slot.specs.declared.event.Event.TheVariants.{Command as Asked}
use Rattle.tenant_slot.specs.declared.reply.FileKind.{FileKind}
use Rattle.tenant_slot.specs.declared.reply.FileKind.TheVariants.{Net as NetFile, Place as PlacesFile, Route as RoutesFile}
use Rattle.tenant_slot.specs.declared.reply.Reply.TheVariants.{File}

-- the command is answered with this file
abbrev pub IsAnswered : State → Command → FileKind → List ℕ → Type 0
IsAnswered state command kind text = (answer_to state (Asked command)).1 ≡ File kind text

-- no byte of a net's name, or of the model's, ends a word
pub record HasPlainNames (circuit : Circuit) : Type 0 where
  pub model : IsPlain circuit.model
  pub nets : All IsPlain circuit.nets

-- The text of the state says a circuit, and there is a layout that implements it. The three files
-- are its print; it has the form of a print, and files can say it.
pub record HasFiledLayout (state : State) : Type 0 where
  pub arch : IsArch state.arch
  pub circuit : Circuit
  pub says : circuit_of state.text state.arch.lut_size ≡ Ok circuit
  pub layout : Layout
  pub implemented : IsImplementedBy circuit state.arch state.strip layout
  pub net : IsAnswered state Net NetFile (net_text circuit state.arch layout)
  pub place : IsAnswered state PlaceFile PlacesFile (place_text circuit state.strip layout)
  pub route : IsAnswered state RouteFile RoutesFile (route_text circuit state.strip layout)
  pub form : HasPrintedForm layout
  pub fits : FitsFiles circuit state.arch layout
  pub names : HasPlainNames circuit

-- no net of the state's circuit is called `open`
abbrev pub NamesNoOpen : State → Type 0
NamesNoOpen state = (circuit : Circuit) → circuit_of state.text state.arch.lut_size ≡ Ok circuit → All (λ name. name ≢ codes "open") circuit.nets

-- the architecture and the strip are those of the tenancy, the netlist says its circuit, and the
-- three files are those with which it is answered
pub record AreTextsOf (state : State) (texts : Texts) : Type 0 where
  pub arch : arch_of texts.arch texts.shape.tracks ≡ Ok state.arch
  pub strip : state.strip ≡ strip_of texts.shape state.arch
  pub netlist : circuit_of texts.netlist state.arch.lut_size ≡ circuit_of state.text state.arch.lut_size
  pub net : IsAnswered state Net NetFile texts.net
  pub place : IsAnswered state PlaceFile PlacesFile texts.place
  pub route : IsAnswered state RouteFile RoutesFile texts.route

-- the verdict is that a layout of the state's own circuit, on its strip, implements this circuit;
-- or that memory ran out
abbrev pub IsAccepted : State → Verdict → Type 0
IsAccepted state (Implements laid) = (circuit_of state.text state.arch.lut_size ≡ Ok laid.circuit) × (laid.arch ≡ state.arch) × (laid.strip ≡ state.strip) × IsImplemented laid
IsAccepted state (Differs laid wrong) = ⊥
IsAccepted state (ArchRefused fault) = ⊥
IsAccepted state (NetlistRefused fault) = ⊥
IsAccepted state (FilesRefused fault) = ⊥
IsAccepted state NoMemory = ⊤
