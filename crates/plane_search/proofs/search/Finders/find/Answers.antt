use Rattle.plane_search.proofs.Prelude.{◌-◌, ◌^◌, arith, least_path, places_of}
use Rattle.plane_search.proofs.Staying.{none_so_dear}
use Rattle.plane_search.proofs.search.Finders.find.Goals as goal

pub returns-clause-none : goal.returns-clause-none
returns-clause-none g c =
    let view = c.args.starts.now.view.now in
    let f = g.P.Planes.family view.planes.now in
    let plane = c.tracks-tracks.ensures.lawful.planes view.track view.on in
    let starts = places_of c.args.starts.now.list.now in
    let b = c.args.starts.now.ordered.within in
    let law = c.least_path_law.ensures in
    λ e path p. absurd (none_so_dear (f.plane view.track) f.exit starts plane.lawful b (least_path (f.plane view.track) starts f.exit)
    (λ path is. (law.least _ _ _ path plane.lawful b).0 is) (law.none _ _ _ plane.lawful b).0 (λ path least. law.cost _ _ _ path plane.lawful b least)
    (2 ^ 59 - 2) (omega (arith, plane.count, c.tracks-tracks.ensures.lawful.few)) (omega arith) (c.find-2.ensures.none e) path p)
