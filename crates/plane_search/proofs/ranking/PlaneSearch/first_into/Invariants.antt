use Rattle.plane_search.proofs.Prelude.{HoldsNone, tracks_in, AreDone}
use Rattle.plane_search.proofs.ranking.PlaneSearch.first_into.Given as goal

abbrev pub invariant-loop-ranked : goal.invariant-loop-ranked
invariant-loop-ranked g l = AreDone (g.P.Planes.family l.planes) (λ track. HoldsNone (g.P.Planes.family l.planes) track) (tracks_in l.ranked-items) l.ranked-index
