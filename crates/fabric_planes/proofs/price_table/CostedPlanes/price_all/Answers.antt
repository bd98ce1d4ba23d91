use Rattle.fabric_planes.proofs.Prelude.{◌≡◌, ◌<◌, ◌≤◌, ◌∙◌, ℕ, List, ap, sym, length, inl, inr, arith, slice_index, place_count, ComesFrom, NO_WIRE}
use Rattle.fabric_planes.proofs.Found.{firsts_cases}
use Rattle.fabric_planes.proofs.Numbers.{number_some}
use Rattle.fabric_planes.proofs.Priced.{begun_by_place, skip_place, none_after, all_by_place}
use Rattle.fabric_planes.proofs.price_table.CostedPlanes.price_all.Goals as goal
use Rattle.fabric_planes.proofs.price_table.CostedPlanes.price_all.Goals.{then-firsts-place, else-firsts-place}

pub price_place-requires-clause-there : goal.price_place-requires-clause-there
price_place-requires-clause-there g c =
    let strip = c.args.self.now.strip in
    let basis = g.G.StripGraph.basis strip.graph.now in
    let firsts = strip.layout.now.firsts.items in
    let place = c.loop-place.place in
    let same = c.as_slice-firsts.ensures.value in
    let within : place < place_count basis = omega (arith, c.loop-place-test.true, ap (λ (xs : List ℕ). length xs) same, strip.laid.firsts.long) in
    elim (firsts_cases c.laws.ensures.basis firsts strip.laid.firsts place within) [
      | inl none ↦ absurd (c.if-firsts-place.true (ap (λ (xs : List ℕ). slice_index xs place) same ∙ none))
      | inr first ↦ (slice_index firsts place, first)
    ]

pub loop-place-init : goal.loop-place-init
loop-place-init g c = record {
  told = c.requires.before;
  low = begun_by_place c.laws.ensures.basis (g.C.NodeCosts.costs c.args.self.now.costs.now) c.args.by_place.now.items c.requires.long_by_place;
}

pub loop-place-preserved : goal.loop-place-preserved
loop-place-preserved g c =
    let strip = c.args.self.now.strip in
    let firsts = strip.layout.now.firsts.items in
    let is = c.laws.ensures.basis in
    let cost = g.C.NodeCosts.costs c.args.self.now.costs.now in
    let place = c.loop-place.place in
    elim c.if-firsts-place.branch [
      | then-firsts-place w ↦ record { told = rw w.prices-is w.price_place.ensures.told; low = rw w.by_place-is w.price_place.ensures.low }
      | else-firsts-place w ↦
          let none : slice_index firsts place ≡ NO_WIRE = ap (λ (xs : List ℕ). slice_index xs place) (sym c.as_slice-firsts.ensures.value) ∙ w.if-firsts-place.false in
          record {
            told = rw w.prices-is c.loop-place.invariant.told;
            low = rw w.by_place-is (skip_place is cost place c.loop-place.by_place.items (λ number wire. number_some is firsts strip.laid.firsts place number wire none) c.loop-place.invariant.low);
          }
    ]

pub returns-clause-low : goal.returns-clause-low
returns-clause-low g c =
    let strip = c.args.self.now.strip in
    let basis = g.G.StripGraph.basis strip.graph.now in
    let cost = g.C.NodeCosts.costs c.args.self.now.costs.now in
    let place = c.loop-place.place in
    let past : place_count basis ≤ place = omega (arith, c.loop-place-test.false, ap (λ (xs : List ℕ). length xs) c.as_slice-firsts.ensures.value, strip.laid.firsts.long) in
    all_by_place basis cost (ComesFrom basis place 0) c.loop-place.by_place.items (λ k within from. none_after c.laws.ensures.basis cost place past k from) c.loop-place.invariant.low
