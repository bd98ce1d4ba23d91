-- A tenancy in the state Routed implements the circuit of its text.
use Rattle.layout_law.proofs.Prelude.{◌≡◌, ℕ, List, None, sym, ap, refl, ◌∙◌, subst, arith, IsArch, Arch, Circuit, IsNarrow, text_lawful, ArePlaced, PackedCircuit, packed_of, IsPacked, IsStripSize, Strip, Place, Connects, Implements, layout_of, KeptPlaces, IsLegal, routed_after, nets_to_route, wiring_of, routes_by_node, Net, are_nets, Basis, IsBasis, graph_of, PlacingUnderWay, places_by_block, AreKeptOn, end_value, nets_in, pass_count, placing_at, placing_sources, routing_sources, step_count, failure_of, State, run, Event, StateName, Routed, ImplementsItsText}
use Rattle.layout_law.proofs.Ends.{HasRoutes, placed_end, routed_end}
use Rattle.layout_law.proofs.Laws.{Laws}
use Rattle.layout_law.proofs.States.{Has, HasNotFailed, IsPlaceable, always_sound, lawful_packed, places_lawful}

-- the parts of a packed circuit
pub packed_circuit : (circuit : Circuit) (arch : Arch) → (packed_of circuit arch).circuit ≡ circuit
unfolding packed_of
packed_circuit circuit arch = refl

pub packed_arch : (circuit : Circuit) (arch : Arch) → (packed_of circuit arch).arch ≡ arch
unfolding packed_of
packed_arch circuit arch = refl

-- the nets of a routing are those between the places at the end of its placing
nets_are : (arch : Arch) (strip : Strip) (text : List ℕ) (kept : KeptPlaces) (seed effort : ℕ) (circuit : Circuit) →
    nets_in (routing_sources arch strip text kept seed effort) circuit
    ≡ nets_to_route (record { arch = arch; strip = strip }) (packed_of circuit arch) (places_by_block (placing_at (placing_sources arch strip text kept seed effort) circuit (pass_count strip)))
unfolding nets_in
nets_are arch strip text kept seed effort circuit = refl

module _ (laws : Laws) (arch : Arch) (strip : Strip) (known : IsArch arch) (size : IsStripSize strip) where
  abbrev basis : Basis
  basis = record { arch = arch; strip = strip }

  is_basis : IsBasis basis
  is_basis = record { arch = known; strip = size }

  module _ (text : List ℕ) (kept : KeptPlaces) (seed effort : ℕ) (is : IsPlaceable arch strip text) (stays : AreKeptOn strip kept) where
    abbrev packed : PackedCircuit
    packed = packed_of is.circuit arch

    abbrev placing : PlacingUnderWay
    placing = placing_at (placing_sources arch strip text kept seed effort) is.circuit (pass_count strip)

    abbrev places : List Place
    places = places_by_block placing

    lawful : IsPacked packed
    lawful = lawful_packed laws arch strip known size text is.circuit is.says is.fit

    narrow : IsNarrow packed.arch.lut_size packed.circuit
    narrow = subst (λ (a : Arch). IsNarrow a.lut_size packed.circuit) (sym (packed_arch is.circuit arch)) (subst (IsNarrow arch.lut_size) (sym (packed_circuit is.circuit arch)) (text_lawful text arch.lut_size is.circuit is.says).1)

    placed : ArePlaced strip packed places
    placed = places_lawful laws arch strip known size text is kept seed effort (pass_count strip) stays

    legal : (routes : HasRoutes arch strip text kept seed effort is.circuit is.says) → IsLegal packed.arch strip packed places routes.routed.routes
    legal routes =
        let sources = routing_sources arch strip text kept seed effort in
        let nets = nets_are arch strip text kept seed effort is.circuit in
        let are = are_nets basis is_basis (laws.graph basis is_basis) packed places placed laws.within (laws.packing packed lawful) in
        let done = sym (ap (λ (n : List Net). (routed_after (wiring_of basis) n (step_count sources)).standing) nets) ∙ routes.done in
        let told : routes.routed.routes ≡ routes_by_node (graph_of basis) (routed_after (wiring_of basis) (nets_to_route basis packed places) (step_count sources)).trees =
        routes.told ∙ ap (λ (n : List Net). routes_by_node (graph_of basis) (routed_after (wiring_of basis) n (step_count sources)).trees) nets in
        subst (λ (a : Arch). IsLegal a strip packed places routes.routed.routes) (sym (packed_arch is.circuit arch))
        (subst (IsLegal arch strip packed places) (sym told) (laws.legal basis packed places (step_count sources) is_basis are done))

    on_circuit : (P : Circuit → Arch → Type 0) → P packed.circuit packed.arch → P is.circuit arch
    on_circuit P shown = subst (λ (c : Circuit). P c arch) (packed_circuit is.circuit arch) (subst (P packed.circuit) (packed_arch is.circuit arch) shown)

    pub implemented : (routes : HasRoutes arch strip text kept seed effort is.circuit is.says) → Implements is.circuit arch strip (layout_of packed places routes.routed.routes)
    implemented routes =
        on_circuit (λ circuit arch. Implements circuit arch strip (layout_of packed places routes.routed.routes))
        (laws.implements packed strip places routes.routed.routes lawful narrow (laws.packing packed lawful) placed (legal routes))

    pub connected : (routes : HasRoutes arch strip text kept seed effort is.circuit is.says) → Connects is.circuit arch strip (layout_of packed places routes.routed.routes)
    connected routes =
        on_circuit (λ circuit arch. Connects circuit arch strip (layout_of packed places routes.routed.routes))
        (laws.connects packed strip places routes.routed.routes lawful narrow (laws.packing packed lawful) placed (legal routes))

  -- a sound state of that name
  of_routed : (state : State) → state.arch ≡ arch → state.strip ≡ strip → AreKeptOn strip state.kept → IsPlaceable state.arch state.strip state.text → HasNotFailed state → ImplementsItsText state
  of_routed state arch_is strip_is stays is unfailed = by state.arch state.strip arch_is strip_is is unfailed
    where
      by : (a : Arch) (s : Strip) → a ≡ arch → s ≡ strip → IsPlaceable a s state.text → failure_of (end_value (routing_sources a s state.text state.kept state.seed state.effort)) ≡ None → ImplementsItsText (record state { arch = a; strip = s })
      by a s same_arch same_strip is unfailed =
          let P : Arch → Strip → Type 0 = λ a s. IsPlaceable a s state.text → failure_of (end_value (routing_sources a s state.text state.kept state.seed state.effort)) ≡ None → ImplementsItsText (record state { arch = a; strip = s }) in
          subst (λ (a : Arch). P a s) (sym same_arch) (subst (P arch) (sym same_strip) here) is unfailed
        where
          here : IsPlaceable arch strip state.text → failure_of (end_value (routing_sources arch strip state.text state.kept state.seed state.effort)) ≡ None → ImplementsItsText (record state { arch = arch; strip = strip })
          here is unfailed =
              let routes = routed_end arch strip state.text state.kept state.seed state.effort is.circuit is.says unfailed in
              record {
                circuit = is.circuit;
                says = is.says;
                lawful = lawful state.text state.kept state.seed state.effort is stays;
                blocks = refl;
                strip = refl;
                placing = placing state.text state.kept state.seed state.effort is stays;
                placed = placed_end arch strip state.text state.kept state.seed state.effort is.circuit is.says size laws.passes;
                routed = routes.routed;
                ended = routes.ended;
                implemented = implemented state.text state.kept state.seed state.effort is stays routes;
                connected = connected state.text state.kept state.seed state.effort is stays routes;
              }

  of_name : (state : State) (name : StateName) → name ≡ Routed → Has name state → IsPlaceable state.arch state.strip state.text × HasNotFailed state
  of_name state name is has = subst (λ (n : StateName). Has n state) is has

  -- whatever the events were
  pub routed_implements : (events : List Event) → (run arch strip events).0.name ≡ Routed → ImplementsItsText (run arch strip events).0
  routed_implements events is = grind (arith, always_sound, of_routed)
