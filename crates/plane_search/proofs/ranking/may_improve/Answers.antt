use Rattle.plane_search.proofs.Prelude.{ℕ, arith, sym, subst, HoldsNothingLess}
use Rattle.plane_search.proofs.Rankings.{out_by_bound, out_by_rivals}
use Rattle.plane_search.proofs.ranking.may_improve.Goals as goal

pub returns-then-view-done : goal.returns-then-view-done
returns-then-view-done g c =
    let f = g.P.Planes.family c.args.view.now.planes.now in
    λ _. subst (λ (k : ℕ). HoldsNothingLess f k c.args.path.now.nodes.items) (sym c.if-view-done.true) (c.requires.known.done (omega (arith, c.args.view.now.on, c.if-view-done.true)))

pub returns-then-path-bound : goal.returns-then-path-bound
returns-then-path-bound g c =
    let plane = c.tracks-tracks.ensures.lawful.planes c.args.view.now.track c.args.view.now.on in
    λ _. out_by_bound plane c.args.path.now c.requires.known.known c.args.bound c.requires.bound c.if-path-bound.true

pub returns-then-path-rival_bound : goal.returns-then-path-rival_bound
returns-then-path-rival_bound g c =
    let plane = c.tracks-tracks.ensures.lawful.planes c.args.view.now.track c.args.view.now.on in
    λ _. out_by_rivals plane c.args.path.now c.requires.known.known c.args.bound c.rival_bound.result c.requires.bound (c.rival_bound.ensures c.args.path.now.nodes.items c.requires.known.about) (omega (arith, c.if-bound-path.false)) c.if-path-rival_bound.true
