use Rattle.plane_search.proofs.Sorting.{listed}
use Rattle.plane_search.proofs.search.TrackSearch.list_in_order.Goals as goal

pub returns : goal.returns
returns g c = listed (g.P.Planes.family c.args.view.now.planes.now) c.args.view.now.track c.args.most _ _ c.in_ok-list_starts.ensures c.sort_unstable.ensures.permutation c.sort_unstable.ensures.sorted
