use Rattle.layout_check.proofs.Owning.{owned_latch_told, unlawful_latch_told}
use Rattle.layout_check.proofs.owners.own_latches.Goals as goal

pub returns-then-not-is_free : goal.returns-then-not-is_free
returns-then-not-is_free c =
    unlawful_latch_told c.args.circuit.now c.loop-number.number c.loop-number.owners.items c.as_slice.result.now c.as_slice-latches.result.now _ c.as_slice.ensures.value c.as_slice-latches.ensures c.loop-number-test.true c.loop-number.invariant
    c.if-not-is_free.ensures

pub loop-number-preserved : goal.loop-number-preserved
loop-number-preserved c =
    owned_latch_told c.args.circuit.now c.loop-number.number c.loop-number.owners.items c.as_slice.result.now c.as_slice-latches.result.now _ c.as_slice.ensures.value c.as_slice-latches.ensures c.loop-number-test.true c.if-not-is_free.ensures
    c.loop-number.invariant
