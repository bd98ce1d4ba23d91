-- A tenancy that is routed, and the circuit of its text.
use Rattle.std.specs.Prelude.{ℕ, ◌≡◌, List, Ok}
use Rattle.blif.specs.CircuitOf.{IsLawfulFor, circuit_of}
use Rattle.blif.specs.declared.circuit.Circuit.{Circuit}
use Rattle.cluster.specs.Clusters.{packed_of}
use Rattle.cluster.specs.LawfulPackings.{IsPacked}
use Rattle.implements.specs.Connects.{Connects}
use Rattle.implements.specs.Implements.{Implements}
use Rattle.implements.specs.LayoutOf.{layout_of}
use Rattle.implements.specs.Layouts.{Layout}
use Rattle.job_state.specs.JobValue.{end_value}
use Rattle.job_state.specs.RoutedCircuits.{RoutedCircuit}
use Rattle.job_state.specs.declared.sources.JobKind.TheVariants.{Placing as PlacingJob, Routing as RoutingJob}
use Rattle.job_state.specs.declared.work.Work.TheVariants.{Placed, Routed}
use Rattle.layout_text.specs.LayoutText.{net_text, place_text, route_text}
use Rattle.strip_place.specs.Anneal.{PlacingUnderWay, places_by_block}
use Rattle.tenant_slot.specs.SingleUser.{State, answer_to, sources_of}
use Rattle.tenant_slot.specs.declared.command.Command.TheVariants.{Net, PlaceFile, RouteFile}
use Rattle.tenant_slot.specs.declared.event.Event.TheVariants.{Command as Asked}
use Rattle.tenant_slot.specs.declared.reply.FileKind.TheVariants.{Net as NetFile, Place as PlacesFile, Route as RoutesFile}
use Rattle.tenant_slot.specs.declared.reply.Reply.TheVariants.{File}

-- each circuit that a text gives is lawful
abbrev pub AreLawfulTexts : ℕ → Type 0
AreLawfulTexts lut_size = (text : List ℕ) (circuit : Circuit) → circuit_of text lut_size ≡ Ok circuit → IsLawfulFor lut_size circuit

-- the text of the state says a circuit, its placing and its routing have ended with places and
-- routes, and the layout that these print implements the circuit
pub record ImplementsItsText (state : State) : Type 0 where
  pub circuit : Circuit
  pub says : circuit_of state.text state.arch.lut_size ≡ Ok circuit
  pub lawful : IsPacked (packed_of circuit state.arch)
  pub placing : PlacingUnderWay
  pub placed : end_value (sources_of state PlacingJob) ≡ Ok (Placed placing)
  pub blocks : placing.packed ≡ packed_of circuit state.arch
  pub strip : placing.strip ≡ state.strip
  pub routed : RoutedCircuit
  pub ended : end_value (sources_of state RoutingJob) ≡ Ok (Routed routed)
  pub implemented : Implements circuit state.arch state.strip (layout_of (packed_of circuit state.arch) (places_by_block placing) routed.routes)
  pub connected : Connects circuit state.arch state.strip (layout_of (packed_of circuit state.arch) (places_by_block placing) routed.routes)

-- The text of the state says a circuit, and there is a layout that implements and connects it: the
-- three files with which the commands `net`, `placefile` and `routefile` are answered are its
-- printing. No packing, placing or routing is in this.
pub record FilesImplement (state : State) : Type 0 where
  pub circuit : Circuit
  pub says : circuit_of state.text state.arch.lut_size ≡ Ok circuit
  pub layout : Layout
  pub net : (answer_to state (Asked Net)).1 ≡ File NetFile (net_text circuit state.arch layout)
  pub place : (answer_to state (Asked PlaceFile)).1 ≡ File PlacesFile (place_text circuit state.strip layout)
  pub route : (answer_to state (Asked RouteFile)).1 ≡ File RoutesFile (route_text circuit state.strip layout)
  pub implemented : Implements circuit state.arch state.strip layout
  pub connected : Connects circuit state.arch state.strip layout
