use Rattle.plane_search.proofs.Prelude.{HoldsNothingLess, tracks_in, AreRanked}
use Rattle.plane_search.proofs.ranking.rank.Given as goal

abbrev pub invariant-loop-track : goal.invariant-loop-track
invariant-loop-track g l = AreRanked (g.P.Planes.family l.planes) (λ track. HoldsNothingLess (g.P.Planes.family l.planes) track l.path.nodes.items) l.track (tracks_in l.ranking.items)
