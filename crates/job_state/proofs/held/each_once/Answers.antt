use Rattle.job_state.proofs.Prelude.{ℕ, ◌≤◌, arith, subst, length, List, Resource, ListsAll}
use Rattle.job_state.proofs.InOrder.{ListsBelow, lists_all, lists_more, lists_same}
use Rattle.job_state.proofs.held.each_once.Goals as goal
use Rattle.job_state.proofs.held.each_once.Goals.{then-index-eq0+in_ok-push, then-index-eq0-via-then-index-eq0, then-index-eq0-via-else-index-eq0+then-is_before, else-index-eq0+else-is_before}

pub loop-index-preserved : goal.loop-index-preserved
loop-index-preserved c =
    let sorted = c.args.sorted.now in
    let below = c.loop-index.invariant in
    elim c.if-index-eq0.branch [
      | then-index-eq0+in_ok-push w ↦
          rw (w.list-is, w.in_ok-push.ensures.items) (lists_more sorted c.loop-index.list.items c.loop-index.index _ below c.loop-index-test.true
          (λ positive. elim w.then-index-eq0.branch [
            | then-index-eq0-via-then-index-eq0 w' ↦ absurd (omega (arith, positive, w'.if-index-eq0.true))
            | then-index-eq0-via-else-index-eq0+then-is_before w' ↦ w'.if-is_before.ensures
          ]))
      | else-index-eq0+else-is_before w ↦
          rw w.list-is (lists_same sorted c.loop-index.list.items c.loop-index.index _ c.requires below c.loop-index-test.true (omega (arith, w.if-index-eq0.false)) w.if-is_before.ensures)
    ]

done : (sorted list : List Resource) (index : ℕ) → index ≤ length sorted → length sorted ≤ index → ListsBelow sorted index list → ListsAll sorted list
done sorted list index most least below = lists_all sorted list (subst (λ k. ListsBelow sorted k list) (omega (arith, most, least)) below)

pub returns : goal.returns
returns c = done c.args.sorted.now c.loop-index.list.items c.loop-index.index c.loop-index.auto.index-end c.loop-index-test.false c.loop-index.invariant
