use Rattle.pathfinder.proofs.Prelude.{◌≡◌, ◌++◌, ◌∷◌, [], length, map, subst, arith, rules, sym, common_steps, AreWithin, part_of, parts_push, AreAdded}
use Rattle.pathfinder.proofs.Adding.{added_push, within_push}
use Rattle.pathfinder.proofs.route.Route.push.Goals as goal

pub returns : goal.returns
returns c =
    let spans = rw c.unwrap.ensures at c.push.ensures.items in
    rw (c.in_ok-extend_from_slice.ensures.items, spans, c.in_ok-reserve.ensures.items, ← c.self.view_is)
    (parts_push c.self.inside.nodes.items c.args.path.now c.self.inside.paths.items _ _ c.self.invariant.0 (search rules) (grind (arith, common_steps)))

pub invariant_of-self-2 : goal.invariant_of-self-2
invariant_of-self-2 c =
    let spans = rw c.unwrap.ensures at c.push.ensures.items in
    let view : map (part_of c.extend_from_slice.new.self.items) c.push.new.self.items ≡ c.args.self.now ++ c.args.path.now ∷ [] =
    rw (c.in_ok-extend_from_slice.ensures.items, spans, c.in_ok-reserve.ensures.items, ← c.self.view_is)
    (parts_push c.self.inside.nodes.items c.args.path.now c.self.inside.paths.items _ _ c.self.invariant.0 (search rules) (grind (arith, common_steps))) in
    let within : AreWithin (length c.extend_from_slice.new.self.items) c.push.new.self.items = rw (spans, c.in_ok-reserve.ensures.items) (within_push (length c.self.inside.nodes.items) (length c.extend_from_slice.new.self.items) c.self.inside.paths.items c.len-start.result c.len-end.result c.self.invariant.0
    (omega (arith, c.in_ok-extend_from_slice.ensures.len)) (omega (arith, c.in_ok-extend_from_slice.ensures.len, c.len-start.ensures, c.len-end.ensures)) (omega (arith, c.len-end.ensures))) in
    (within, subst AreAdded (sym view) (added_push c.args.self.now c.args.path.now (subst AreAdded c.self.view_is c.self.invariant.1) c.requires))
