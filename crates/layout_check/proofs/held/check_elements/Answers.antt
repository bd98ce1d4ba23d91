use Rattle.layout_check.proofs.Prelude.{List, ap, arith, length, subst, sym, Latch, IsHeldFault}
use Rattle.layout_check.proofs.HeldOnce.{bles_of_circuit, counts_told, fault_told, held_all, held_told, latch_fault, latches_within, table_fault, tables_within, within_told}
use Rattle.layout_check.proofs.held.check_elements.Goals as goal

pub loop-place-preserved : goal.loop-place-preserved
loop-place-preserved c =
    held_told c.args.circuit.now c.args.elements.now c.loop-place.place c.loop-place.tables.items c.loop-place.latches.items c.index-elements-place.result c.in-Ok.found.table c.in-Ok.found.latch c.push.new.self.items c.push-in-Ok.new.self.items
    c.loop-place-test.true c.index-elements-place.is c.in-Ok.ensures c.in_ok-push-in-Ok.ensures.items c.in_ok-push-in-Ok-2.ensures.items c.loop-place.invariant

pub check_once-requires : goal.check_once-requires
check_once-requires c =
    let held = held_all c.args.circuit.now c.args.elements.now c.loop-place.place c.loop-place.tables.items c.loop-place.latches.items (omega arith) c.loop-place.invariant in
    within_told _ _ _ _ c.as_slice.ensures.value c.len.ensures (tables_within c.args.circuit.now c.args.elements.now _ _ held)

pub check_once-requires-2 : goal.check_once-requires-2
check_once-requires-2 c =
    let held = held_all c.args.circuit.now c.args.elements.now c.loop-place.place c.loop-place.tables.items c.loop-place.latches.items (omega arith) c.loop-place.invariant in
    within_told _ _ _ _ c.as_slice-2.ensures.value (ap (λ (xs : List Latch). length xs) c.as_slice-3.ensures) (latches_within c.args.circuit.now c.args.elements.now _ _ held)

pub returns-in-Some : goal.returns-in-Some
returns-in-Some c =
    let held = held_all c.args.circuit.now c.args.elements.now c.loop-place.place c.loop-place.tables.items c.loop-place.latches.items (omega arith) c.loop-place.invariant in
    subst (λ f. IsHeldFault c.args.circuit.now c.args.elements.now f) (sym c.of_tables.ensures)
    (table_fault c.args.circuit.now c.args.elements.now _ _ held c.in-Some.fault (fault_told _ _ _ _ c.as_slice.ensures.value c.len.ensures c.in-Some.fault (rw c.in-Some.is at c.in_ok-fault.ensures)))

pub returns-in-Some-2 : goal.returns-in-Some-2
returns-in-Some-2 c =
    let held = held_all c.args.circuit.now c.args.elements.now c.loop-place.place c.loop-place.tables.items c.loop-place.latches.items (omega arith) c.loop-place.invariant in
    subst (λ f. IsHeldFault c.args.circuit.now c.args.elements.now f) (sym c.of_latches.ensures)
    (latch_fault c.args.circuit.now c.args.elements.now _ _ held c.in-Some-2.fault
    (fault_told _ _ _ _ c.as_slice-2.ensures.value (ap (λ (xs : List Latch). length xs) c.as_slice-3.ensures) c.in-Some-2.fault (rw c.in-Some-2.is at c.in_ok-fault-2.ensures)))

pub returns : goal.returns
returns c =
    let held = held_all c.args.circuit.now c.args.elements.now c.loop-place.place c.loop-place.tables.items c.loop-place.latches.items (omega arith) c.loop-place.invariant in
    bles_of_circuit c.args.circuit.now c.args.elements.now _ _ held (counts_told _ _ _ _ c.as_slice.ensures.value c.len.ensures (rw c.in_default.is at c.in_ok-fault.ensures))
    (counts_told _ _ _ _ c.as_slice-2.ensures.value (ap (λ (xs : List Latch). length xs) c.as_slice-3.ensures) (rw c.in-None.is at c.in_ok-fault-2.ensures))
