use Rattle.plane_search.proofs.Prelude.{refl}
use Rattle.plane_search.proofs.Embedding.{path_there}
use Rattle.plane_search.proofs.Bests.{among_path, numbered}
use Rattle.plane_search.proofs.search.TrackSearch.find_nodes.Goals as goal

pub number_nodes-requires : goal.number_nodes-requires
number_nodes-requires g c =
    let plane = c.tracks-tracks.ensures.lawful.planes c.args.view.now.track c.args.view.now.on in
    path_there plane c.find.new.self.found.nodes.items (among_path c.requires.are c.find.new.self.found.nodes.items (c.in_ok-find.ensures.found cc).least.found)

pub returns-clause-found : goal.returns-clause-found
returns-clause-found g c =
    let plane = c.tracks-tracks.ensures.lawful.planes c.args.view.now.track c.args.view.now.on in
    λ _. numbered plane _ (among_path c.requires.are) c.find.new.self.found _ (c.in_ok-find.ensures.found cc) refl c.number_nodes.ensures
