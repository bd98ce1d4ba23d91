-- A tenancy that is routed has a layout that files can say.
use Rattle.print_law.proofs.Prelude.{◌≡◌, ℕ, refl, ◌≤◌, List, Ok, length, map, sym, ap, ◌∙◌, subst, All, concat, All-map, IsArch, Arch, MAX_PINS, circuit_of, Circuit, PackedCircuit, packed_of, IsPacked, IsLawfulPacking, IsPlaceIn, places_of, IsStripSize, Strip, Kind, Place, Implements, layout_of, nets_in, pass_count, placing_at, placing_sources, routing_sources, step_count, KeptPlaces, FitsFiles, IsSmallNode, EndsAtSink, HasPrintedForm, ImplementsItsText, HasRoutes, placed_end, routed_end, Laws, connected, implemented, packed_arch, packed_circuit, Has, HasNotFailed, IsPlaceable, always_sound, lawful_packed, places_lawful, LeastPathLaws, Tree, routed_after, nets_to_route, wiring_of, routes_by_node, IsWiring, any_from, paths_within, are_nets, HoldsWithin, done_sound, Basis, IsBasis, IsRoutingGraph, graph_of, Node, PlacingUnderWay, places_by_block, AreKeptOn, State, run, Event, StateName, Routed, HasFiledLayout, HasPlainNames}
use Rattle.pathfinder.specs.Wiring.{Net}
use Rattle.print_law.proofs.Files.{layout, net_answered, place_answered, route_answered}
use Rattle.print_law.proofs.Blocks.{all_bare, all_fit, few_laid}
use Rattle.print_law.proofs.Nets.{ArePaths, all_nets_fit, all_nets_whole, globals_are}
use Rattle.print_law.proofs.Nodes.{ends_at_sink, small_node}
use Rattle.print_law.proofs.Numbers.{all_numbered}
use Rattle.print_law.proofs.Paths.{IsWhole, always_whole}

-- ---- routes by node

module _ (basis : Basis) (is : IsBasis basis) (law : IsWiring (wiring_of basis)) (graph : IsRoutingGraph basis (graph_of basis)) (few_pins : length basis.arch.pins ≤ MAX_PINS) where
  abbrev node : ℕ → Node
  node = (graph_of basis).node

  tree_paths : (tree : Tree) → HoldsWithin (wiring_of basis) tree → IsWhole (wiring_of basis) tree → ArePaths (map (map node) tree)
  tree_paths tree within whole =
      let each = paths_within (wiring_of basis) tree (λ number c. within number (any_from number (concat tree) c)) in
      record {
        ends = All-map EndsAtSink (map node) tree (λ k d small. ends_at_sink basis law _ (each k d small) (whole k d small));
        small = All-map (All IsSmallNode) (map node) tree (λ k d small. All-map IsSmallNode node _ (λ j e low. small_node basis.arch basis.strip is.arch is.strip few_pins _ (graph.nodes _ (each k d small j e low))));
      }

  all_paths : (trees : List Tree) → All (HoldsWithin (wiring_of basis)) trees → All (IsWhole (wiring_of basis)) trees → All ArePaths (routes_by_node (graph_of basis) trees)
  all_paths trees within whole = All-map ArePaths (map (map node)) trees (λ k d small. tree_paths _ (within k d small) (whole k d small))

-- ---- the layout of results

module _ (packed : PackedCircuit) (lawful : IsPacked packed) (laws : IsLawfulPacking packed) (places : List Place) (routes : List (List (List Node))) (whole : All ArePaths routes) where
  fits_files : (strip : Strip) → IsStripSize strip → ((kind : Kind) → All (IsPlaceIn strip kind) (places_of strip kind)) → Implements packed.circuit packed.arch strip (layout_of packed places routes) → FitsFiles packed.circuit packed.arch (layout_of packed places routes)
  unfolding layout_of
  fits_files strip size within implements = record {
    globals = globals_are packed laws routes whole;
    blocks = all_fit packed lawful laws places strip size within implements.narrow implements.placed;
    numbered = all_numbered packed places;
    few_blocks = few_laid packed lawful laws places;
    nets = all_nets_fit packed laws routes whole;
  }

  printed_form : HasPrintedForm (layout_of packed places routes)
  unfolding layout_of
  printed_form = record { blocks = all_bare packed lawful laws places; nets = all_nets_whole packed laws routes whole }

-- the nets of a routing are those between the places at the end of its placing
nets_are : (arch : Arch) (strip : Strip) (text : List ℕ) (kept : KeptPlaces) (seed effort : ℕ) (circuit : Circuit) →
    nets_in (routing_sources arch strip text kept seed effort) circuit
    ≡ nets_to_route (record { arch = arch; strip = strip }) (packed_of circuit arch) (places_by_block (placing_at (placing_sources arch strip text kept seed effort) circuit (pass_count strip)))
unfolding nets_in
nets_are arch strip text kept seed effort circuit = refl

module _ (laws : Laws) (wiring : (basis : Basis) → IsBasis basis → IsWiring (wiring_of basis)) (paths : LeastPathLaws) (arch : Arch) (strip : Strip) (known : IsArch arch) (size : IsStripSize strip) where
  abbrev basis : Basis
  basis = record { arch = arch; strip = strip }

  is_basis : IsBasis basis
  is_basis = record { arch = known; strip = size }

  module _ (text : List ℕ) (kept : KeptPlaces) (seed effort : ℕ) (is : IsPlaceable arch strip text) (stays : AreKeptOn strip kept) (routes : HasRoutes arch strip text kept seed effort is.circuit is.says) where
    abbrev packed : PackedCircuit
    packed = packed_of is.circuit arch

    abbrev placing : PlacingUnderWay
    placing = placing_at (placing_sources arch strip text kept seed effort) is.circuit (pass_count strip)

    abbrev places : List Place
    places = places_by_block placing

    lawful : IsPacked packed
    lawful = lawful_packed laws arch strip known size text is.circuit is.says is.fit

    few_pins : length arch.pins ≤ MAX_PINS
    few_pins = subst (λ (a : Arch). length a.pins ≤ MAX_PINS) (packed_arch is.circuit arch) (laws.packing packed lawful).few_pins

    whole : All ArePaths routes.routed.routes
    whole =
        let w = wiring_of basis in
        let count = step_count (routing_sources arch strip text kept seed effort) in
        let nets = nets_are arch strip text kept seed effort is.circuit in
        let placed = places_lawful laws arch strip known size text is kept seed effort (pass_count strip) stays in
        let are = are_nets basis is_basis (laws.graph basis is_basis) packed places placed laws.within (laws.packing packed lawful) in
        let done = sym (ap (λ (n : List Net). (routed_after w n count).standing) nets) ∙ routes.done in
        let told = routes.told ∙ ap (λ (n : List Net). routes_by_node (graph_of basis) (routed_after w n count).trees) nets in
        let law = wiring basis is_basis in
        let sound = done_sound w law paths (nets_to_route basis packed places) are count done in
        subst (λ (r : List (List (List Node))). All ArePaths r) (sym told)
        (all_paths basis is_basis law (laws.graph basis is_basis) few_pins (routed_after w (nets_to_route basis packed places) count).trees sound.1 (always_whole w (nets_to_route basis packed places) are.each count))

    fits : FitsFiles is.circuit arch (layout_of packed places routes.routed.routes)
    fits =
        let implements = implemented laws arch strip known size text kept seed effort is stays routes in
        let on_packed : Implements packed.circuit packed.arch strip (layout_of packed places routes.routed.routes) =
        subst (λ (c : Circuit). Implements c packed.arch strip (layout_of packed places routes.routed.routes)) (sym (packed_circuit is.circuit arch))
        (subst (λ (a : Arch). Implements is.circuit a strip (layout_of packed places routes.routed.routes)) (sym (packed_arch is.circuit arch)) implements) in
        subst (λ (c : Circuit). FitsFiles c arch (layout_of packed places routes.routed.routes)) (packed_circuit is.circuit arch)
        (subst (λ (a : Arch). FitsFiles packed.circuit a (layout_of packed places routes.routed.routes)) (packed_arch is.circuit arch)
        (fits_files packed lawful (laws.packing packed lawful) places routes.routed.routes whole strip size (λ kind. laws.within strip kind size) on_packed))

    form : HasPrintedForm (layout_of packed places routes.routed.routes)
    form = printed_form packed lawful (laws.packing packed lawful) places routes.routed.routes whole

-- ---- states

module _ (laws : Laws) (wiring : (basis : Basis) → IsBasis basis → IsWiring (wiring_of basis)) (paths : LeastPathLaws) (state : State) (known : IsArch state.arch) (size : IsStripSize state.strip) where
  module _ (stays : AreKeptOn state.strip state.kept) (is : IsPlaceable state.arch state.strip state.text) (unfailed : HasNotFailed state) where
    abbrev the_routes : HasRoutes state.arch state.strip state.text state.kept state.seed state.effort is.circuit is.says
    the_routes = routed_end state.arch state.strip state.text state.kept state.seed state.effort is.circuit is.says unfailed

    abbrev means : ImplementsItsText state
    means = record {
      circuit = is.circuit;
      says = is.says;
      lawful = lawful laws wiring paths state.arch state.strip known size state.text state.kept state.seed state.effort is stays the_routes;
      blocks = refl;
      strip = refl;
      placing = placing laws wiring paths state.arch state.strip known size state.text state.kept state.seed state.effort is stays the_routes;
      placed = placed_end state.arch state.strip state.text state.kept state.seed state.effort is.circuit is.says size laws.passes;
      routed = the_routes.routed;
      ended = the_routes.ended;
      implemented = implemented laws state.arch state.strip known size state.text state.kept state.seed state.effort is stays the_routes;
      connected = connected laws state.arch state.strip known size state.text state.kept state.seed state.effort is stays the_routes;
    }

    filed : state.name ≡ Routed → HasPlainNames is.circuit → HasFiledLayout state
    filed name plain = record {
      arch = known;
      circuit = is.circuit;
      says = is.says;
      layout = layout laws state name means;
      implemented = means.implemented;
      net = net_answered laws state name means;
      place = place_answered laws state name means;
      route = route_answered laws state name means;
      form = form laws wiring paths state.arch state.strip known size state.text state.kept state.seed state.effort is stays the_routes;
      fits = fits laws wiring paths state.arch state.strip known size state.text state.kept state.seed state.effort is stays the_routes;
      names = plain;
    }

  -- a sound state that is routed
  pub of_sound : AreKeptOn state.strip state.kept → state.name ≡ Routed → Has state.name state → ((circuit : Circuit) → circuit_of state.text state.arch.lut_size ≡ Ok circuit → HasPlainNames circuit) → HasFiledLayout state
  of_sound stays name has plain =
      let routed : IsPlaceable state.arch state.strip state.text × HasNotFailed state = of_name state.name name has in
      filed stays routed.0 routed.1 name (plain routed.0.circuit routed.0.says)
    where
      of_name : (name : StateName) → name ≡ Routed → Has name state → IsPlaceable state.arch state.strip state.text × HasNotFailed state
      of_name name is has = subst (λ (n : StateName). Has n state) is has

-- whatever the events were
pub always_filed : (laws : Laws) (wiring : (basis : Basis) → IsBasis basis → IsWiring (wiring_of basis)) (paths : LeastPathLaws) (arch : Arch) (strip : Strip) (events : List Event) → IsArch arch → IsStripSize strip → (run arch strip events).0.name ≡ Routed →
    ((text : List ℕ) (lut_size : ℕ) (circuit : Circuit) → circuit_of text lut_size ≡ Ok circuit → HasPlainNames circuit) → HasFiledLayout (run arch strip events).0
always_filed laws wiring paths arch strip events known size name plain =
    let state = (run arch strip events).0 in
    let sound = always_sound laws arch strip known size events in
    of_sound laws wiring paths state (subst IsArch (sym sound.arch_is) known) (subst IsStripSize (sym sound.strip_is) size) (subst (λ (s : Strip). AreKeptOn s state.kept) (sym sound.strip_is) sound.kept) name sound.has (plain state.text state.arch.lut_size)
