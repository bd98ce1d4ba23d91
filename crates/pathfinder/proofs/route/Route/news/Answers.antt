use Rattle.pathfinder.proofs.Prelude.{◌∙◌, [], ℕ, get_or, drop, sym, ap, subst, take_rest, AreAdded}
use Rattle.pathfinder.proofs.Adding.{later_some, news_later, part_is}
use Rattle.pathfinder.proofs.route.Route.news.Goals as goal

pub slice_bounds-result-count : goal.slice_bounds-result-count
slice_bounds-result-count c =
    let tree = c.args.self.now in
    let added = subst AreAdded c.self.view_is c.self.invariant.1 in
    let part = part_is c.self.inside.nodes.items c.self.inside.paths.items tree c.args.number c.index-span.result.now c.self.view_is c.requires c.index-span.ensures in
    rw (c.deref.ensures.value, part) (later_some tree c.args.number added c.requires c.if-number-eq0.false)

pub slice_bounds-result-start : goal.slice_bounds-result-start
slice_bounds-result-start c =
    let tree = c.args.self.now in
    let added = subst AreAdded c.self.view_is c.self.invariant.1 in
    let part = part_is c.self.inside.nodes.items c.self.inside.paths.items tree c.args.number c.index-span.result.now c.self.view_is c.requires c.index-span.ensures in
    rw (c.deref.ensures.value, part) (later_some tree c.args.number added c.requires c.if-number-eq0.false)

pub returns-then-number-eq0-clause-adds : goal.returns-then-number-eq0-clause-adds
returns-then-number-eq0-clause-adds c = subst AreAdded c.self.view_is c.self.invariant.1 c.args.number c.requires

pub returns-else-number-eq0-clause-adds : goal.returns-else-number-eq0-clause-adds
returns-else-number-eq0-clause-adds c = subst AreAdded c.self.view_is c.self.invariant.1 c.args.number c.requires

pub returns-else-number-eq0-clause-result : goal.returns-else-number-eq0-clause-result
returns-else-number-eq0-clause-result c =
    let tree = c.args.self.now in
    let part = part_is c.self.inside.nodes.items c.self.inside.paths.items tree c.args.number c.index-span.result.now c.self.view_is c.requires c.index-span.ensures in
    rw (c.deref.ensures.value, part) (take_rest (get_or tree c.args.number []) 1 ∙ ap (λ (n : ℕ). drop n (get_or tree c.args.number [])) (sym (news_later tree c.args.number c.requires c.if-number-eq0.false)))
