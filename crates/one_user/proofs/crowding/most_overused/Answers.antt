use Rattle.one_user.proofs.Prelude.{◌≡◌, ◌≤◌, ◌+◌, List, [], ◌∷◌, ◌++◌, Some, None, ap, arith, length, length-append, subst, sym, IsNextMostOverused, over_of}
use Rattle.one_user.proofs.Crowdings.{AreFirst, all_told, first_more, first_none, many_told}
use Rattle.one_user.proofs.crowding.most_overused.Goals as goal

pub loop-told-init : goal.loop-told-init
loop-told-init c = record { first = subst (AreFirst (over_of c.args.overs.now) (length c.args.overs.now) None) (sym c.new-nodes.ensures.items) (first_none (over_of c.args.overs.now) (length c.args.overs.now)); many = ap length c.new-nodes.ensures.items }

pub next_most_overused-requires : goal.next_most_overused-requires
next_most_overused-requires c = c.loop-told.invariant.first.within

pub returns-in-None : goal.returns-in-None
returns-in-None c =
    let over = over_of c.args.overs.now in
    all_told over (length c.args.overs.now) c.args.limit c.loop-told.last c.loop-told.nodes.items c.loop-told.invariant.first (omega (arith, c.loop-told.invariant.many, c.loop-told.auto._told-end))
    (subst (IsNextMostOverused over (length c.args.overs.now) c.loop-told.last) c.in-None.is c.next_most_overused.ensures)

pub loop-told-preserved : goal.loop-told-preserved
loop-told-preserved c =
    let over = over_of c.args.overs.now in
    let count = length c.args.overs.now in
    let pushed : c.push.new.self.items ≡ c.loop-told.nodes.items ++ c.in-Some.next ∷ [] = c.in_ok-push-in-Some.ensures.items in
    record {
      first = subst (AreFirst over count (Some c.in-Some.next)) (sym pushed)
          (first_more over count c.loop-told.last c.loop-told.nodes.items c.in-Some.next c.loop-told.invariant.first (subst (IsNextMostOverused over count c.loop-told.last) c.in-Some.is c.next_most_overused.ensures));
      many = omega (arith, ap length pushed, length-append c.loop-told.nodes.items (c.in-Some.next ∷ []), c.loop-told.invariant.many);
    }

pub returns : goal.returns
returns c = many_told (over_of c.args.overs.now) (length c.args.overs.now) c.args.limit c.loop-told.last c.loop-told.nodes.items c.loop-told.invariant.first (omega (arith, c.loop-told.invariant.many, c.loop-told.auto._told-end, c.loop-told-test.false))
