use Rattle.plane_search.proofs.Prelude.{◌<◌, ◌≤◌, refl, arith}
use Rattle.plane_search.proofs.Rankings.{ranked_first, ranked_in, ranked_out, ranked_sorted}
use Rattle.plane_search.proofs.ranking.rank.Goals as goal
use Rattle.plane_search.proofs.ranking.rank.Goals.{then-may_improve+in_ok-push, else-may_improve}

pub loop-track-init : goal.loop-track-init
loop-track-init g c = ranked_first c.clear.new.self.items c.clear.ensures.items

pub loop-track-preserved : goal.loop-track-preserved
loop-track-preserved g c =
    let f = g.P.Planes.family c.args.planes.now in
    let track = c.loop-track.track in
    let below : track < f.tracks = omega (arith, c.loop-track-test.true, c.tracks-track-end.ensures.value) in
    elim c.if-may_improve.branch [
      | then-may_improve+in_ok-push w ↦ rw w.ranking-is (ranked_in track c.loop-track.ranking.items _ _ c.loop-track.invariant w.in_ok-push.ensures.items refl below)
      | else-may_improve w ↦ rw w.ranking-is (ranked_out track _ c.loop-track.invariant (w.if-may_improve.ensures cc))
    ]

pub returns : goal.returns
returns g c =
    let f = g.P.Planes.family c.args.planes.now in
    let all : f.tracks ≤ c.loop-track.track = omega (arith, c.loop-track-test.false, c.tracks-track-end.ensures.value) in
    ranked_sorted f.tracks c.loop-track.track c.loop-track.ranking.items _ c.loop-track.invariant all c.sort_unstable.ensures.permutation
