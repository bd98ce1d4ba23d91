use Rattle.plane_search.proofs.Prelude.{tracks_in, IsUnderWay}
use Rattle.plane_search.proofs.ranking.PlaneSearch.least_into.Given as goal

abbrev pub invariant-loop-ranked : goal.invariant-loop-ranked
invariant-loop-ranked g l = IsUnderWay (g.P.Planes.family l.planes) (tracks_in l.ranked-items) l.ranked-index l.fn.path.cost l.fn.path.nodes.items l.path
