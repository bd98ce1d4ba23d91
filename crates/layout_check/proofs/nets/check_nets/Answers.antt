use Rattle.layout_check.proofs.Prelude.{◌≡◌, ◌<◌, ◌≤◌, List, Some, ap, get_or, length, sym, subst, ◌∙◌, slice_get-get_or, arith, capacity_of, graph_of, LaidNet, ℕ, refl, uses_of, Node}
use Rattle.layout_check.proofs.Counted.{carried_all, checked_all, checked_more, few_uses}
use Rattle.layout_check.proofs.nets.check_nets.Goals as goal

pub check_entry-requires-clause-within : goal.check_entry-requires-clause-within
check_entry-requires-clause-within c =
    let small = subst (λ (nets : List LaidNet). c.loop-number.number < length nets) c.nets-laid-items.ensures c.loop-number-test.true in
    let item = sym (c.laid-item.is ∙ ap (λ (nets : List LaidNet). get_or nets c.loop-number.number c.laid-item.result) c.nets-laid-items.ensures) in
    c.in_ok-index.ensures.within c.loop-number.number c.laid-item.result
    (slice_get-get_or c.args.layout.now.nets c.loop-number.number c.laid-item.result small ∙ ap (λ (laid : LaidNet). Some laid) item)

pub check_entry-requires-clause-few : goal.check_entry-requires-clause-few
check_entry-requires-clause-few c =
    few_uses c.args.circuit.now c.args.graph.now c.args.layout.now c.loop-number.number c.loop-number.uses.items (omega (arith, c.loop-number-test.true))
    (subst (λ (nets : List LaidNet). c.loop-number.number < length nets) c.nets-laid-items.ensures c.loop-number-test.true) c.loop-number.invariant.1

pub loop-number-preserved : goal.loop-number-preserved
loop-number-preserved c = (
  c.in_ok-fault.ensures.room,
  checked_more c.args.circuit.now c.args.graph.now c.args.layout.now c.loop-number.number c.loop-number.uses.items c.check_entry.new.uses.items c.laid-item.result c.loop-number.invariant.1
      (subst (λ (nets : List LaidNet). c.loop-number.number < length nets) c.nets-laid-items.ensures c.loop-number-test.true)
      (sym (c.laid-item.is ∙ ap (λ (nets : List LaidNet). get_or nets c.loop-number.number c.laid-item.result) c.nets-laid-items.ensures)) c.in_ok-fault.ensures.uses (rw c.in_default.is at c.in_ok-fault.ensures.exact)
      (rw c.in_default.is at c.in_ok-fault.ensures.used),
)

pub returns : goal.returns
returns c =
    let all = checked_all c.args.circuit.now c.args.graph.now c.args.layout.now c.loop-number.number c.loop-number.uses.items
    (subst (λ (nets : List LaidNet). length nets ≤ c.loop-number.number) c.nets-laid-items.ensures c.loop-number-test.false) c.loop-number.invariant.1 in (
      all.0,
      carried_all c.args.circuit.now c.args.graph.now c.laws.ensures.lawful c.args.layout.now c.loop-number.uses.items all.0 all.1
          (subst (λ (uses : List ℕ). (k : ℕ) → k < (graph_of c.args.graph.now).count → get_or uses k 0 ≤ capacity_of c.args.graph.now.arch c.args.graph.now.strip ((graph_of c.args.graph.now).node k)) c.as_slice.ensures.value c.in-None.ensures),
    )

pub returns-in-Some : goal.returns-in-Some
returns-in-Some c =
    let small = subst (λ (nets : List LaidNet). c.loop-number.number < length nets) c.nets-laid-items.ensures c.loop-number-test.true in
    let item = sym (c.laid-item.is ∙ ap (λ (nets : List LaidNet). get_or nets c.loop-number.number c.laid-item.result) c.nets-laid-items.ensures) in
    (c.laid-item.result, slice_get-get_or c.args.layout.now.nets c.loop-number.number c.laid-item.result small ∙ ap (λ (laid : LaidNet). Some laid) item, rw c.in-Some.is at c.in_ok-fault.ensures.exact)

pub returns-in-Some-first_overused : goal.returns-in-Some-first_overused
returns-in-Some-first_overused c =
    let all = checked_all c.args.circuit.now c.args.graph.now c.args.layout.now c.loop-number.number c.loop-number.uses.items
    (subst (λ (nets : List LaidNet). length nets ≤ c.loop-number.number) c.nets-laid-items.ensures c.loop-number-test.false) c.loop-number.invariant.1 in
    let node = (graph_of c.args.graph.now).node c.in-Some-first_overused.node in
    let said = c.in-Some-first_overused.ensures in
    let counted = all.1 node c.in-Some-first_overused.node said.0 refl in
    let same = ap (λ (uses : List ℕ). get_or uses c.in-Some-first_overused.node 0) c.as_slice.ensures.value in
    subst (λ (n : Node). capacity_of c.args.graph.now.arch c.args.graph.now.strip n < uses_of c.args.layout.now.nets n) (sym c.node.ensures) (omega (arith, said.1, counted, same))
