-- The files that are answered in the state Routed are the printing of the layout.
use Rattle.layout_law.proofs.Prelude.{◌≡◌, true, List, arith, PackedCircuit, packed_of, Place, layout_of, Layout, net_text, place_text, route_text, places_by_block, State, answer_to, is_lawful, serve, Command, Routed, net_text_of, place_text_of, route_text_of, FilesImplement, ImplementsItsText}
use Rattle.tenant_slot.specs.declared.event.Event.TheVariants.{Command as Asked}
use Rattle.layout_law.proofs.Laws.{Laws}
use Rattle.layout_law.proofs.Routed.{packed_arch, packed_circuit}

module _ (laws : Laws) (state : State) (is : state.name ≡ Routed) (means : ImplementsItsText state) where
  -- a command that is lawful there is served
  served : (command : Command) → is_lawful Routed command ≡ true → (answer_to state (Asked command)).1 ≡ (serve state command).1
  served command lawful = grind arith

  abbrev packed : PackedCircuit
  packed = packed_of means.circuit state.arch

  abbrev places : List Place
  places = places_by_block means.placing

  abbrev layout : Layout
  layout = layout_of packed places means.routed.routes

  net_is : net_text_of packed ≡ net_text means.circuit state.arch layout
  net_is = grind (arith, packed_circuit, packed_arch)

  place_is : place_text_of means.placing.strip means.placing.packed places ≡ place_text means.circuit state.strip layout
  place_is = grind (arith, packed_circuit)

  route_is : route_text_of means.placing.strip means.placing.packed places means.routed.routes ≡ route_text means.circuit state.strip layout
  route_is = grind (arith, packed_circuit)

  pub files_implement : FilesImplement state
  files_implement = grind (arith, net_is, place_is, route_is)
