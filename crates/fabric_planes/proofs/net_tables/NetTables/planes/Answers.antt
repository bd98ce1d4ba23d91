use Rattle.fabric_planes.proofs.Prelude.{◌∙◌, ◌≤◌, ℕ, List, length, ap, subst, sym, arith, PinAt, AreLeast, AreSides, HaveBounds, Terminals, planes_of, AreArrivals, ArePins, HaveEnds}
use Rattle.std.proofs.Common.{All}
use Rattle.fabric_planes.proofs.AheadWires.{node_there}
use Rattle.fabric_planes.proofs.Strips.{node_fields}
use Rattle.fabric_planes.proofs.net_tables.NetTables.planes.Goals as goal

pub place-requires : goal.place-requires
place-requires g c =
    let quest = c.args.quest.now in
    let ends = quest.search.terminals in
    node_fields c.laws.ensures.basis quest.sink (node_there c.laws.ensures.basis quest.goal ends.goal_within quest.sink ends.goal_is)

pub invariant_of-result : goal.invariant_of-result
invariant_of-result g c =
    let quest = c.args.quest.now in
    let priced = quest.priced.now in
    let basis = g.G.StripGraph.basis priced.graph.now in
    let cost = g.C.NodeCosts.costs priced.costs.now in
    let tables = c.requires in
    let bounds = tables.bounds in
    let sink = quest.sink in
    let t : Terminals = record { source = quest.source; sink = sink } in
    let pins = c.as_slice-2.ensures.value in
    let lasts = c.as_slice-3.ensures.value in
    record {
      search = quest.search;
      are_listed = tables.starts_are;
      exit_is = c.place.ensures.value basis priced.laid.shape;
      are_sides = subst (AreSides basis sink) (sym c.as_slice.ensures.value) tables.sides;
      are_aheads = c.aheads.ensures;
      are_least = subst (λ (xs : List ℕ). AreLeast basis.arch.tracks xs c.as_slice-4.result.now) (sym lasts) (subst (AreLeast basis.arch.tracks c.args.self.now.bounds.lasts.items) (sym c.as_slice-4.ensures.value) bounds.least);
      four = omega (arith, ap (λ (xs : List ℕ). length xs) pins, bounds.four);
      few_pins = subst (λ (xs : List ℕ). All (λ bound. bound ≤ 19000) xs) (sym pins) bounds.few_pins;
      few_lasts = subst (λ (xs : List ℕ). All (λ bound. bound ≤ 20000) xs) (sym lasts) bounds.few_lasts;
      lasts_long = ap (λ (xs : List ℕ). length xs) lasts ∙ bounds.long;
      bounded = subst (λ (xs : List ℕ). HaveBounds basis cost sink xs c.as_slice-3.result.now) (sym pins)
          (subst (λ (xs : List ℕ). HaveBounds basis cost sink c.args.self.now.bounds.pins.items xs) (sym lasts) bounds.bounded);
      are_pins = subst (ArePins basis t) (sym c.as_slice-5.ensures.value) tables.pins;
      are_prices = c.as_slice-7.ensures basis cost priced.priced;
      are_by_place = c.by_place.ensures basis cost priced.priced;
      top_far = c.fars.ensures;
      bottom_far = c.fars-2.ensures;
      right_far = c.fars-3.ensures;
      left_far = c.fars-4.ensures;
      are_own_sides = subst (AreSides basis quest.source) (sym c.as_slice-6.ensures.value) tables.own_sides;
      are_arrivals = subst (AreArrivals basis sink priced.layout.now.arrivals.rows) (sym c.as_slice-8.ensures.value) tables.arrivals;
      have_ends = subst (λ (pins : List PinAt). HaveEnds (planes_of basis cost quest.starts.now quest.goal t) priced.layout.now.pins.rows pins) (sym c.as_slice-5.ensures.value) tables.ends;
      back_is = omega (arith, c.stride.ensures.value, priced.laid.shape.rows, priced.laid.shape.pins);
      counted = priced.counted;
    }
