use Rattle.layout_check.proofs.Prelude.{take, flat_map, option_to_list, CountsOn}
use Rattle.layout_check.proofs.reads.count_controls.Given as goal

abbrev pub invariant-loop-latch : goal.invariant-loop-latch
invariant-loop-latch l = CountsOn l.initial.counts.items (flat_map (λ latch. option_to_list latch.control) (take l.latch-index l.latches)) l.counts.items
