use Rattle.ble_cluster.proofs.Prelude.{sym, ap, ◌∙◌, map, take, arith, subst, take_more, take_all, map_push, Latch, CountsOn}
use Rattle.ble_cluster.proofs.Counting.{counts_on}
use Rattle.ble_cluster.proofs.readers.count_latches.Goals as goal

pub loop-latch-preserved : goal.loop-latch-preserved
loop-latch-preserved c =
    let front = take c.loop-latch.latch-index c.args.latches.now in
    counts_on _ _ _ (map (λ (latch : Latch). latch.input) front) _ _ c.loop-latch.invariant c.count.ensures
    (sym (ap (map (λ (latch : Latch). latch.input)) (take_more c.args.latches.now c.loop-latch.latch-index _ (omega arith)) ∙ map_push (λ (latch : Latch). latch.input) front _))

pub returns : goal.returns
returns c =
    subst (λ latches. CountsOn c.args.counts.now (map (λ (latch : Latch). latch.input) latches) c.loop-latch.counts)
    (take_all c.loop-latch.latch-index c.args.latches.now (omega arith)) c.loop-latch.invariant
