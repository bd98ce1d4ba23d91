use Rattle.layout_check.proofs.Prelude.{sym, ap, ◌∙◌, map, take, arith, take_more, map_push, Latch}
use Rattle.layout_check.proofs.ReadCounts.{counts_on}
use Rattle.layout_check.proofs.reads.count_latches.Goals as goal

pub loop-latch-preserved : goal.loop-latch-preserved
loop-latch-preserved c =
    let front = take c.loop-latch.latch-index c.args.latches.now in
    counts_on _ _ _ (map (λ (latch : Latch). latch.input) front) _ _ c.loop-latch.invariant c.count.ensures
    (sym (ap (map (λ (latch : Latch). latch.input)) (take_more c.args.latches.now c.loop-latch.latch-index _ (omega arith)) ∙ map_push (λ (latch : Latch). latch.input) front _))
