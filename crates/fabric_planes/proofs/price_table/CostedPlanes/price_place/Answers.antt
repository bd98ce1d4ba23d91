use Rattle.fabric_planes.proofs.Prelude.{◌+◌, inl, arith, ComesFrom}
use Rattle.fabric_planes.proofs.Numbers.{first_wire, track_there}
use Rattle.fabric_planes.proofs.Priced.{repriced, repriced_by_place, all_but, all_told, next_wire, next_place}
use Rattle.fabric_planes.proofs.price_table.CostedPlanes.price_place.Goals as goal

pub price_wire-requires-clause-there : goal.price_wire-requires-clause-there
price_wire-requires-clause-there g c =
    let is = c.laws.ensures.basis in
    let (first, at) = c.requires.there in
    track_there is c.args.place first c.loop-track.track (omega (arith, c.loop-track-test.true, c.args.self.now.strip.laid.shape.tracks)) (first_wire is c.args.place first at)

pub loop-track-preserved : goal.loop-track-preserved
loop-track-preserved g c =
    let basis = g.G.StripGraph.basis c.args.self.now.strip.graph.now in
    let is = c.laws.ensures.basis in
    let cost = g.C.NodeCosts.costs c.args.self.now.costs.now in
    let place = c.args.place in
    let track = c.loop-track.track in
    let old = c.loop-track.prices.items in
    let new = c.price_wire.new.prices.items in
    let old_by = c.loop-track.by_place.items in
    let new_by = c.price_wire.new.by_place.items in
    let first = c.requires.there.0 in
    let found = track_there is place first track (omega (arith, c.loop-track-test.true, c.args.self.now.strip.laid.shape.tracks)) (first_wire is place first c.requires.there.1) in
    let set = c.price_wire.ensures found.0 found.1 in
    record {
      told = all_told basis cost (λ k. ⊥) new (λ k n. n)
          (repriced is cost found.0 (λ k. ⊥) (λ k. ⊥) old new old_by new_by (λ k n. absurd n) (all_but basis cost (λ k. ⊥) old c.loop-track.invariant.told) (inl set));
      low = repriced_by_place is cost found.0 (ComesFrom basis place track) (ComesFrom basis place (track + 1)) old new old_by new_by
          (next_wire is cost place track found.0 found.1) c.loop-track.invariant.low (inl set);
    }

pub returns-clause-low : goal.returns-clause-low
returns-clause-low g c =
    next_place c.laws.ensures.basis (g.C.NodeCosts.costs c.args.self.now.costs.now) c.args.place c.loop-track.track c.loop-track.by_place.items
    (omega (arith, c.loop-track-test.false, c.args.self.now.strip.laid.shape.tracks)) c.loop-track.invariant.low
