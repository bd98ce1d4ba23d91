use Rattle.job_state.proofs.Prelude.{◌≡◌, ◌++◌, ◌∙◌, List, Result, Ok, Err, IfOk, ap, sym, subst, IsPermutation, list_any-IsPermutation, Resource, is_same, ListsAll, on_trees}
use Rattle.job_state.proofs.Sorted.{in_order}
use Rattle.job_state.proofs.held.list_resources.Goals as goal

pub each_once-requires : goal.each_once-requires
each_once-requires c = rw c.as_slice.ensures.value (in_order c.sort_unstable.new.self.items c.sort_unstable.ensures.sorted)

of_sorted : (all sorted list : List Resource) → IsPermutation all sorted → ListsAll sorted list → ListsAll all list
of_sorted all sorted list moved lists = record { in_order = lists.in_order; exact = λ resource. lists.exact resource ∙ sym (list_any-IsPermutation (is_same resource) all sorted moved) }

made_of : {E V : Type 0} (items : V → List Resource) (all sorted : List Resource) (made : Result V E) → IsPermutation all sorted → IfOk made (λ list. ListsAll sorted (items list)) → IfOk made (λ list. ListsAll all (items list))
made_of items all sorted (Ok list) moved lists = of_sorted all sorted (items list) moved lists
made_of items all sorted (Err error) moved lists = tt

pub returns : goal.returns
returns c =
    let all = on_trees c.args.routes.now ++ c.args.pads.now in
    let is : c.extend_from_slice.new.self.items ≡ all = c.in_ok-extend_from_slice.ensures.items ∙ ap (λ list. list ++ c.args.pads.now) c.in_ok-all.ensures in
    made_of (λ list. list.items) all c.as_slice.result.now c.each_once.result (rw c.as_slice.ensures.value (subst (λ list. IsPermutation list c.sort_unstable.new.self.items) is c.sort_unstable.ensures.permutation)) c.each_once.ensures
