use Rattle.plane_search.proofs.Prelude.{◌≡◌, ℕ, ◌∷◌, ◌++◌, [], List, get_or, arith, ◌∙◌, ap, sym, subst, Contains-get_or, places_of, CostsMore, IsLeastFrom, places_in}
use Rattle.plane_search.proofs.Starting.{no_start, least_of_starts, all_dear, one_dearer, place_at, as_many}
use Rattle.plane_search.proofs.walk.Walk.least_into.Goals as goal

pub walk_from-requires-clause-among : goal.walk_from-requires-clause-among
walk_from-requires-clause-among g c = Contains-get_or c.args.aim.now.starts.now c.loop-start.start-index no_start c.loop-start-test.true

pub loop-start-preserved : goal.loop-start-preserved
loop-start-preserved g c =
    let f = g.P.Planes.family c.args.aim.now.planes.now in
    let plane = f.plane c.args.aim.now.track in
    let starts = c.args.aim.now.starts.now in
    let index = c.loop-start.start-index in (
      c.in_ok-walk_from.ensures.between cc,
      one_dearer plane f.exit c.args.aim.now.best (places_of starts) index c.loop-start.invariant.1
          (subst (λ (x : ℕ). CostsMore plane f.exit c.args.aim.now.best x 0) (sym (place_at starts index no_start c.loop-start-test.true)) (c.in_ok-walk_from.ensures.none cc)),
    )

pub returns-then-branch-clause-found : goal.returns-then-branch-clause-found
returns-then-branch-clause-found g c =
    let f = g.P.Planes.family c.args.aim.now.planes.now in
    let plane = f.plane c.args.aim.now.track in
    let best = c.args.aim.now.best in
    let stops = c.walk_from.new.self.stops.items in
    let index = c.loop-start.start-index in
    let starts = c.args.aim.now.starts.now in
    let is : c.write_path.new.nodes.items ≡ places_in stops ++ f.exit ∷ [] = c.in_ok-write_path.ensures ∙ ap (λ (e : ℕ). places_in stops ++ e ∷ []) c.args.aim.now.to in
    let from = subst (λ (x : ℕ). IsLeastFrom plane f.exit best x (places_in stops ++ f.exit ∷ [])) (sym (place_at starts index no_start c.loop-start-test.true)) (c.in_ok-walk_from.ensures.found cc) in
    λ _. least_of_starts plane f.exit best (places_of starts) index c.write_path.new.nodes.items (omega (arith, c.loop-start-test.true, as_many starts)) c.args.aim.now.ordered.rising c.args.aim.now.can.cheap c.loop-start.invariant.1
    (subst (λ (p : List ℕ). IsLeastFrom plane f.exit best (get_or (places_of starts) index 0) p) (sym is) from)

pub returns-clause-none : goal.returns-clause-none
returns-clause-none g c =
    let f = g.P.Planes.family c.args.aim.now.planes.now in
    let starts = c.args.aim.now.starts.now in
    λ _. all_dear (f.plane c.args.aim.now.track) f.exit c.args.aim.now.best (places_of starts) c.loop-start.start-index (omega (arith, c.loop-start-test.false, as_many starts)) c.loop-start.invariant.1
