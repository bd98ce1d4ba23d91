use Rattle.layout_check.proofs.Prelude.{map, take, CountsOn}
use Rattle.layout_check.proofs.reads.count_latches.Given as goal

abbrev pub invariant-loop-latch : goal.invariant-loop-latch
invariant-loop-latch l = CountsOn l.initial.counts.items (map (λ latch. latch.input) (take l.latch-index l.latches)) l.counts.items
