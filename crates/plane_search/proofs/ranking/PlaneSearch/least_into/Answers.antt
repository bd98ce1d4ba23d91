use Rattle.plane_search.proofs.Prelude.{List, sym, subst, Ranked, HoldsNothingLess, tracks_in, AreRanked}
use Rattle.plane_search.proofs.Rankings.{way_first, way_on, way_end, track_below}
use Rattle.plane_search.proofs.ranking.PlaneSearch.least_into.Goals as goal

pub loop-ranked-init : goal.loop-ranked-init
loop-ranked-init g c =
    let f = g.P.Planes.family c.args.planes.now in
    way_first (tracks_in c.as_slice-ranked-items.result.now) c.args.path.now c.requires.known
    (subst (λ (ranking : List Ranked). AreRanked f (λ k. HoldsNothingLess f k c.args.path.now.nodes.items) f.tracks (tracks_in ranking)) (sym c.as_slice-ranked-items.ensures.value) c.in_ok-rank.ensures)

pub invariant_of-view : goal.invariant_of-view
invariant_of-view g c =
    let f = g.P.Planes.family c.args.planes.now in
    let are = subst (λ (ranking : List Ranked). AreRanked f (λ k. HoldsNothingLess f k c.args.path.now.nodes.items) f.tracks (tracks_in ranking)) (sym c.as_slice-ranked-items.ensures.value) c.in_ok-rank.ensures in
    record {
      on = track_below c.as_slice-ranked-items.result.now are c.loop-ranked.ranked-index (record { bound = 0; track = 0 }) c.loop-ranked-test.true;
      to = c.exit-exit.ensures;
    }

pub loop-ranked-preserved : goal.loop-ranked-preserved
loop-ranked-preserved g c =
    way_on c.as_slice-ranked-items.result.now c.loop-ranked.ranked-index (record { bound = 0; track = 0 }) c.loop-ranked.path c.improve.new.path c.loop-ranked-test.true c.loop-ranked.invariant
    (c.in_ok-improve.ensures c.args.path.now.nodes.items c.requires.about c.loop-ranked.invariant.later)

pub returns-clause-least : goal.returns-clause-least
returns-clause-least g c = way_end c.tracks-tracks.ensures.lawful c.as_slice-ranked-items.result.now c.loop-ranked.ranked-index c.loop-ranked.path c.loop-ranked-test.false c.loop-ranked.invariant

pub returns-clause-exact : goal.returns-clause-exact
returns-clause-exact g c =
    let f = g.P.Planes.family c.args.planes.now in
    let family = c.tracks-tracks.ensures.lawful in
    let tells = way_end family c.as_slice-ranked-items.result.now c.loop-ranked.ranked-index c.loop-ranked.path c.loop-ranked-test.false c.loop-ranked.invariant in
    (c.least_path_law.ensures.least f.whole f.starts f.goal c.loop-ranked.path.nodes.items family.lawful family.starts).1 tells.least
