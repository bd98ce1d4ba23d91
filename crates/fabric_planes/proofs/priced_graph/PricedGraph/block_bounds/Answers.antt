use Rattle.fabric_planes.proofs.Prelude.{◌≡◌, ◌+◌, ◌-◌, ◌∙◌, ℕ, List, length, ap, inl, inr, subst, false, arith, slice_index_or, cases_lt, Sides, sides_at, graph_of, AreLow}
use Rattle.fabric_planes.proofs.Lowered.{low_still}
use Rattle.fabric_planes.proofs.OwnPins.{own_at}
use Rattle.fabric_planes.proofs.priced_graph.PricedGraph.block_bounds.Goals as goal

pub bounds-inputs-number : goal.bounds-inputs-number
bounds-inputs-number g c =
    let at = c.numbers_at-numbers.ensures in
    let first = c.numbers_at-numbers.result.first in
    let index : ℕ = c.loop-number.number - first in
    let within = c.args.self.now.laid.inputs c.args.sink.x c.args.sink.y first c.numbers_at-numbers.result.end index c.requires at (omega (arith, c.loop-number.invariant.from, c.loop-number-test.true)) in
    omega (arith, within.within, ap (λ (xs : List Sides). length xs) c.as_slice-inputs.ensures.value)

pub with_pin-pins-requires-clause-within : goal.with_pin-pins-requires-clause-within
with_pin-pins-requires-clause-within g c = omega (arith, c.loop-number-test.true, c.numbers_at-numbers.ensures.within)

pub loop-number-preserved : goal.loop-number-preserved
loop-number-preserved g c =
    let basis = g.G.StripGraph.basis c.args.self.now.graph.now in
    let cost = g.C.NodeCosts.costs c.args.self.now.costs.now in
    let at = c.numbers_at-numbers.ensures in
    let first = c.numbers_at-numbers.result.first in
    let number = c.loop-number.number in
    let index : ℕ = number - first in
    let has = c.args.self.now.laid.inputs c.args.sink.x c.args.sink.y first c.numbers_at-numbers.result.end index c.requires at (omega (arith, c.loop-number.invariant.from, c.loop-number-test.true)) in
    let none : Sides = record { top = false; bottom = false; left = false; right = false } in
    let here : first + index ≡ number = omega (arith, c.loop-number.invariant.from) in
    record {
      from = omega (arith, c.loop-number.invariant.from);
      few = c.with_pin-pins.ensures.few;
      each = λ node from to. elim (cases_lt node number) [
        | inl before ↦ low_still (sides_at basis.arch basis.strip ((graph_of basis).node node)) c.with_pin-pins.result c.loop-number.pins (cost node) c.with_pin-pins.ensures.falls (c.loop-number.invariant.each node from before)
        | inr on ↦
            (let same : number ≡ node = omega (arith, to, on) in
            subst (λ (k : ℕ). AreLow (sides_at basis.arch basis.strip ((graph_of basis).node k)) c.with_pin-pins.result (cost k)) same
            (subst (λ (sides : Sides). AreLow sides c.with_pin-pins.result (cost number))
            (ap (λ (xs : List Sides). slice_index_or xs index none) c.as_slice-inputs.ensures.value ∙ (has.sides none ∙ ap (λ (k : ℕ). sides_at basis.arch basis.strip ((graph_of basis).node k)) here))
            c.with_pin-pins.ensures.low))
      ];
    }

pub returns-clause-low : goal.returns-clause-low
returns-clause-low g c = λ node own.
    let range = c.numbers_at-numbers.ensures.all node own.within (own_at (g.G.StripGraph.basis c.args.self.now.graph.now) c.args.sink node own) in
    c.loop-number.invariant.each node range.0 (omega (arith, range.1, c.loop-number-test.false))
