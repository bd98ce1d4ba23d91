use Rattle.plane_search.proofs.Prelude.{refl, sym, subst, Path, IsLeastOfTrack}
use Rattle.plane_search.proofs.Embedding.{path_there}
use Rattle.plane_search.proofs.Bests.{of_track}
use Rattle.plane_search.proofs.search.TrackSearch.begin.Goals as goal

pub number_nodes-requires : goal.number_nodes-requires
number_nodes-requires g c =
    let plane = c.tracks-tracks.ensures.lawful.planes c.args.view.now.track c.args.view.now.on in
    path_there plane c.find_first.new.self.found.nodes.items (c.in_ok-find_first.ensures.found cc).least.found

pub returns-clause-found : goal.returns-clause-found
returns-clause-found g c =
    let f = g.P.Planes.family c.args.view.now.planes.now in
    let plane = c.tracks-tracks.ensures.lawful.planes c.args.view.now.track c.args.view.now.on in
    λ _. subst (λ (path : Path). IsLeastOfTrack f c.args.view.now.track path) (sym c.swap.ensures.x_after)
    (of_track plane c.args.view.now.on c.find_first.new.self.found _ (c.in_ok-find_first.ensures.found cc) refl c.number_nodes.ensures)
