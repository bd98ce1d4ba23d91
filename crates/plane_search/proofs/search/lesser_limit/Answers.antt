use Rattle.plane_search.proofs.Prelude.{arith}
use Rattle.plane_search.proofs.Bests.{dearer, no_tie}
use Rattle.plane_search.proofs.search.lesser_limit.Goals as goal

pub returns-then-path-known_cost : goal.returns-then-path-known_cost
returns-then-path-known_cost g c =
    let plane = c.tracks-tracks.ensures.lawful.planes c.args.view.now.track c.args.view.now.on in
    λ nodes about later. dearer plane c.args.path.now c.requires

pub returns-then-rival_bound-path : goal.returns-then-rival_bound-path
returns-then-rival_bound-path g c =
    let plane = c.tracks-tracks.ensures.lawful.planes c.args.view.now.track c.args.view.now.on in
    λ nodes about later. dearer plane c.args.path.now c.requires

pub returns : goal.returns
returns g c =
    let plane = c.tracks-tracks.ensures.lawful.planes c.args.view.now.track c.args.view.now.on in
    λ nodes about later. no_tie plane c.args.path.now c.requires c.args.known_cost c.rival_bound.result _ nodes (c.rival_bound.ensures nodes about) later (omega (arith, c.if-path-known_cost.false)) (omega (arith, c.if-rival_bound-path.false)) (omega (arith, c.saturating_sub.ensures))
