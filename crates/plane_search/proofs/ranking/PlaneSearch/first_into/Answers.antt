use Rattle.plane_search.proofs.Prelude.{◌≡◌, ℕ, List, get_or, sym, subst, Ranked, IsLeastOfTrack, HoldsNone, tracks_in, AreRanked}
use Rattle.plane_search.proofs.Rankings.{done_first, done_next, done_end, track_below}
use Rattle.plane_search.proofs.Split.{none_of_all}
use Rattle.plane_search.proofs.ranking.PlaneSearch.first_into.Goals as goal

pub loop-ranked-init : goal.loop-ranked-init
loop-ranked-init g c =
    let f = g.P.Planes.family c.args.planes.now in
    done_first f (λ (k : ℕ). HoldsNone f k) (λ (k : ℕ). ⊥) (tracks_in c.as_slice-ranked-items.result.now)
    (subst (λ (ranking : List Ranked). AreRanked f (λ (k : ℕ). ⊥) f.tracks (tracks_in ranking)) (sym c.as_slice-ranked-items.ensures.value) c.in_ok-rank_all.ensures) (λ k h. absurd h)

pub invariant_of-view : goal.invariant_of-view
invariant_of-view g c =
    let f = g.P.Planes.family c.args.planes.now in
    let are = subst (λ (ranking : List Ranked). AreRanked f (λ (k : ℕ). ⊥) f.tracks (tracks_in ranking)) (sym c.as_slice-ranked-items.ensures.value) c.in_ok-rank_all.ensures in
    record {
      on = track_below c.as_slice-ranked-items.result.now are c.loop-ranked.ranked-index (record { bound = 0; track = 0 }) c.loop-ranked-test.true;
      to = c.exit-exit.ensures;
    }

pub loop-ranked-preserved : goal.loop-ranked-preserved
loop-ranked-preserved g c =
    let f = g.P.Planes.family c.args.planes.now in
    done_next f (λ (k : ℕ). HoldsNone f k) (λ (k : ℕ). HoldsNone f k) c.as_slice-ranked-items.result.now c.loop-ranked.ranked-index (record { bound = 0; track = 0 }) c.loop-ranked-test.true c.loop-ranked.invariant (λ k h. h) (c.in_ok-begin.ensures.none cc)

pub returns-then-branch-clause-found : goal.returns-then-branch-clause-found
returns-then-branch-clause-found g c =
    let f = g.P.Planes.family c.args.planes.now in
    λ track e.
    let same : (get_or c.as_slice-ranked-items.result.now c.loop-ranked.ranked-index (record { bound = 0; track = 0 })).track ≡ track = cc in
    subst (λ (k : ℕ). IsLeastOfTrack f k c.begin.new.path) same (c.in_ok-begin.ensures.found cc)

pub returns-clause-none : goal.returns-clause-none
returns-clause-none g c =
    let f = g.P.Planes.family c.args.planes.now in
    λ _. none_of_all c.tracks-tracks.ensures.lawful (done_end f (λ (k : ℕ). HoldsNone f k) c.as_slice-ranked-items.result.now c.loop-ranked.ranked-index c.loop-ranked-test.false c.loop-ranked.invariant)
