-- The files that are answered in the state Routed are the print of the layout of results.
use Rattle.print_law.proofs.Prelude.{◌≡◌, Bool, true, if◌then◌else◌, List, Option, None, Ok, Result, ap, refl, ◌∙◌, Arch, Circuit, BlifFault, PackedCircuit, packed_of, Strip, Place, layout_of, Layout, end_value, Routing as RoutingJob, Work, Placed as PlacedWork, net_text, place_text, route_text, places_by_block, place_file_of, route_file_of, State, answer_to, is_lawful, serve, sources_of, with_circuit, Command, PlaceFile, RouteFile, Net as NetFile, Route as RoutesFile, WrongState, Reply, File, Refused, StateName, Routed, net_text_of, place_text_of, route_text_of, ImplementsItsText, Laws, packed_arch, packed_circuit, IsAnswered}
use Rattle.tenant_slot.specs.declared.command.Command.TheVariants.{Net}
use Rattle.tenant_slot.specs.declared.event.Event.TheVariants.{Command as Asked}
use Rattle.tenant_slot.specs.declared.reply.FileKind.TheVariants.{Place as PlacesFile}

module _ (laws : Laws) (state : State) (is : state.name ≡ Routed) (means : ImplementsItsText state) where
  -- a command that is lawful there is served
  served : (command : Command) → is_lawful Routed command ≡ true → (answer_to state (Asked command)).1 ≡ (serve state command).1
  served command lawful =
      let test : is_lawful state.name command ≡ true = ap (λ (n : StateName). is_lawful n command) is ∙ lawful in
      ap (λ (b : Bool). let answer : Option State × Reply = (if b then serve state command else (None, Refused (WrongState state.name))) in answer.1) test

  abbrev pub packed : PackedCircuit
  packed = packed_of means.circuit state.arch

  abbrev pub places : List Place
  places = places_by_block means.placing

  abbrev pub layout : Layout
  layout = layout_of packed places means.routed.routes

  net_is : net_text_of packed ≡ net_text means.circuit state.arch layout
  net_is =
      laws.net_printed packed places means.routed.routes means.lawful
      ∙ ap (λ (c : Circuit). net_text c packed.arch layout) (packed_circuit means.circuit state.arch)
      ∙ ap (λ (a : Arch). net_text means.circuit a layout) (packed_arch means.circuit state.arch)

  place_is : place_text_of means.placing.strip means.placing.packed places ≡ place_text means.circuit state.strip layout
  place_is =
      ap (λ (s : Strip). place_text_of s means.placing.packed places) means.strip
      ∙ ap (λ (p : PackedCircuit). place_text_of state.strip p places) means.blocks
      ∙ laws.place_printed packed state.strip places means.routed.routes means.lawful
      ∙ ap (λ (c : Circuit). place_text c state.strip layout) (packed_circuit means.circuit state.arch)

  route_is : route_text_of means.placing.strip means.placing.packed places means.routed.routes ≡ route_text means.circuit state.strip layout
  route_is =
      ap (λ (s : Strip). route_text_of s means.placing.packed places means.routed.routes) means.strip
      ∙ ap (λ (p : PackedCircuit). route_text_of state.strip p places means.routed.routes) means.blocks
      ∙ laws.route_printed packed state.strip places means.routed.routes means.lawful
      ∙ ap (λ (c : Circuit). route_text c state.strip layout) (packed_circuit means.circuit state.arch)

  pub net_answered : IsAnswered state Net NetFile (net_text means.circuit state.arch layout)
  net_answered =
      served Net refl
      ∙ ap (λ (r : Result Circuit BlifFault). (with_circuit r (λ circuit. (None, File NetFile (net_text_of (packed_of circuit state.arch))))).1) means.says
      ∙ ap (File NetFile) net_is

  pub place_answered : IsAnswered state PlaceFile PlacesFile (place_text means.circuit state.strip layout)
  place_answered = served PlaceFile refl ∙ ap (λ (r : Result Work BlifFault). File PlacesFile (place_file_of r)) means.placed ∙ ap (File PlacesFile) place_is

  pub route_answered : IsAnswered state RouteFile RoutesFile (route_text means.circuit state.strip layout)
  route_answered =
      served RouteFile refl
      ∙ ap (λ (r : Result Work BlifFault). File RoutesFile (route_file_of r (end_value (sources_of state RoutingJob)))) means.placed
      ∙ ap (λ (r : Result Work BlifFault). File RoutesFile (route_file_of (Ok (PlacedWork means.placing)) r)) means.ended
      ∙ ap (File RoutesFile) route_is
