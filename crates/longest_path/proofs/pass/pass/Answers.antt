use Rattle.longest_path.proofs.Prelude.{ℕ, ◌≡◌, ◌+◌, ◌<◌, ◌≤◌, List, Some, get_or, length, length-set, subst, arith, ap, ◌∙◌, slice_get, LookupTable, Reach, AreUnreached, IsFarthest, reach_of, steps_to}
use Rattle.longest_path.proofs.Raising.{table_within, looped, kept, more, farther, far_of, raises, reached_within}
use Rattle.longest_path.proofs.pass.pass.Goals as goal
use Rattle.longest_path.proofs.pass.pass.Goals.{in-Some+else-best-nets+then-best-index, in-Some+else-best-nets+else-best-index, in_default}

pub returns-then-best-nets : goal.returns-then-best-nets
returns-then-best-nets c starts found =
    let now : List Reach = c.loop-place.reach.items in
    let net : ℕ = c.in-Some.net in
    let table : LookupTable = record { line = c.table-table.result.line; inputs = c.table-table.result.inputs.now; output = c.table-table.result.output } in
    let farthest : IsFarthest now table.inputs net = subst (λ (r : List Reach). IsFarthest r table.inputs net) c.deref.ensures.value c.in-Some.ensures in
    let is : reach_of now net ≡ c.index-best.result.now = far_of now net c.index-best.result.now (reached_within now net farthest.reached) c.index-best.ensures in
    looped c.args.tables.now starts c.loop-place.place net table c.index-best.result.now c.args.reach.items now c.requires.within c.table-table.ensures is farthest (omega arith) (c.loop-place.invariant.passed starts found)

pub index-requires : goal.index-requires
index-requires c =
    let here = c.table-table.ensures in
    let within : c.table-table.result.output < length c.args.reach.items = (table_within c.args.tables.now (length c.args.reach.items) c.loop-place.place (record { line = c.table-table.result.line; inputs = c.table-table.result.inputs.now; output = c.table-table.result.output }) c.requires.within here).output in
    let long : length c.loop-place.reach.items ≡ length c.args.reach.items = c.loop-place.invariant.long in
    omega arith

pub index_mut-requires : goal.index_mut-requires
index_mut-requires c =
    let here = c.table-table.ensures in
    let within : c.table-table.result.output < length c.args.reach.items = (table_within c.args.tables.now (length c.args.reach.items) c.loop-place.place (record { line = c.table-table.result.line; inputs = c.table-table.result.inputs.now; output = c.table-table.result.output }) c.requires.within here).output in
    let long : length c.loop-place.reach.items ≡ length c.args.reach.items = c.loop-place.invariant.long in
    omega arith

pub loop-place-preserved : goal.loop-place-preserved
loop-place-preserved c =
    let tables : List LookupTable = c.args.tables.now in
    let old : List Reach = c.args.reach.items in
    let now : List Reach = c.loop-place.reach.items in
    let place : ℕ = c.loop-place.place in
    let table : LookupTable = record { line = c.table-table.result.line; inputs = c.table-table.result.inputs.now; output = c.table-table.result.output } in
    let here : slice_get tables place ≡ Some table = c.table-table.ensures in
    let long : length now ≡ length old = c.loop-place.invariant.long in
    let is_within : table.output < length now = (let h : table.output < length old = (table_within tables (length old) place table c.requires.within here).output in omega arith) in
    elim c.match-farthest_net.branch [
      | in-Some+else-best-nets+then-best-index w ↦
          let net : ℕ = w.in-Some.net in
          let best : Reach = w.index-best.result.now in
          let farthest : IsFarthest now table.inputs net = subst (λ (r : List Reach). IsFarthest r table.inputs net) c.deref.ensures.value w.in-Some.ensures in
          let is : reach_of now net ≡ best = far_of now net best (reached_within now net farthest.reached) w.index-best.ensures in
          let above : steps_to now table.output ≤ best.steps = (let e : reach_of now table.output ≡ w.index.result.now = far_of now table.output w.index.result.now is_within w.index.ensures in let e2 : steps_to now table.output ≡ w.index.result.now.steps = ap (λ (r : Reach). r.steps) e in omega arith) in
          let few : best.steps ≤ length now = omega arith in
          rw (w.reach-is, w.is_raised-is) (record {
            rises = λ n. (let a : steps_to old n ≤ steps_to now n = c.loop-place.invariant.rises n in let b = raises now table.output best n is_within above in omega arith);
            long = length-set now table.output (record { steps = best.steps + 1; start = best.start }) ∙ long;
            passed = λ starts found. more tables starts place net table best old now here is farthest few above is_within (c.loop-place.invariant.passed starts found);
            same = λ h. absurd (grind arith);
            farther = λ _. farther table.output best old now is_within above c.loop-place.invariant.rises;
          })
      | in-Some+else-best-nets+else-best-index w ↦
          let net : ℕ = w.in-Some.net in
          let best : Reach = w.index-best.result.now in
          let farthest : IsFarthest now table.inputs net = subst (λ (r : List Reach). IsFarthest r table.inputs net) c.deref.ensures.value w.in-Some.ensures in
          let is : reach_of now net ≡ best = far_of now net best (reached_within now net farthest.reached) w.index-best.ensures in
          let steps_is : steps_to now net ≡ best.steps = ap (λ (r : Reach). r.steps) is in
          let below : best.steps < steps_to now table.output = (let e : reach_of now table.output ≡ w.index.result.now = far_of now table.output w.index.result.now is_within w.index.ensures in let e2 : steps_to now table.output ≡ w.index.result.now.steps = ap (λ (r : Reach). r.steps) e in omega arith) in
          rw (w.reach-is, w.is_raised-is) (record {
            long = long;
            rises = c.loop-place.invariant.rises;
            passed = λ starts found. kept tables starts place (steps_to now net) table old now here farthest.most (λ _. omega arith) (c.loop-place.invariant.passed starts found);
            same = c.loop-place.invariant.same;
            farther = c.loop-place.invariant.farther;
          })
      | in_default w ↦
          let none_is : AreUnreached now table.inputs = subst (λ (r : List Reach). AreUnreached r table.inputs) c.deref.ensures.value w.in_default.ensures in
          rw (w.reach-is, w.is_raised-is) (record {
            long = long;
            rises = c.loop-place.invariant.rises;
            passed = λ starts found. kept tables starts place 0 table old now here (λ k within. (let h : steps_to now (get_or table.inputs k 0) ≡ 0 = none_is k within in omega arith)) (λ h. absurd (omega arith)) (c.loop-place.invariant.passed starts found);
            same = c.loop-place.invariant.same;
            farther = c.loop-place.invariant.farther;
          })
    ]
