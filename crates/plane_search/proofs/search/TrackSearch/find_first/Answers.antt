use Rattle.plane_search.proofs.Prelude.{arith, inl, inr, least_path, places_of}
use Rattle.plane_search.proofs.Bests.{on_all, none_of_all, among_nodes}
use Rattle.plane_search.proofs.Staying.{none_so_dear}
use Rattle.plane_search.proofs.search.TrackSearch.find_first.Goals as goal

pub returns-then-branch-clause-found : goal.returns-then-branch-clause-found
returns-then-branch-clause-found g c = λ _. on_all c.in_ok-list_in_order.ensures.are c.find.new.self.found (c.in_ok-find.ensures.found cc) (inl (c.in_ok-find.ensures.within cc))

pub returns-clause-found : goal.returns-clause-found
returns-clause-found g c = λ e. on_all c.in_ok-list_in_order-2.ensures.are c.find-2.new.self.found (c.find-2.ensures.found e) (inr (omega arith))

pub returns-clause-none : goal.returns-clause-none
returns-clause-none g c =
    let f = g.P.Planes.family c.args.view.now.planes.now in
    let plane = c.tracks-tracks.ensures.lawful.planes c.args.view.now.track c.args.view.now.on in
    let starts = places_of c.list_in_order-2.new.self.starts.items in
    let b = among_nodes c.in_ok-list_in_order-2.ensures.are plane in
    let law = c.least_path_law.ensures in
    λ e. none_of_all c.in_ok-list_in_order-2.ensures.are (omega arith)
    (none_so_dear (f.plane c.args.view.now.track) f.exit starts plane.lawful b (least_path (f.plane c.args.view.now.track) starts f.exit)
    (λ path is. (law.least _ _ _ path plane.lawful b).0 is) (law.none _ _ _ plane.lawful b).0 (λ path least. law.cost _ _ _ path plane.lawful b least)
    _ (omega (arith, plane.count, c.tracks-tracks.ensures.lawful.few)) (omega arith) (c.find-2.ensures.none e))
