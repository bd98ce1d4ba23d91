use Rattle.plane_search.proofs.Prelude.{tracks_in, AreRanked}
use Rattle.plane_search.proofs.ranking.rank_all.Given as goal

abbrev pub invariant-loop-track : goal.invariant-loop-track
invariant-loop-track g l = AreRanked (g.P.Planes.family l.planes) (λ track. ⊥) l.track (tracks_in l.ranking.items)
