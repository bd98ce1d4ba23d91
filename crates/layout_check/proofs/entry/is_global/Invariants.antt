use Rattle.layout_check.proofs.Prelude.{◌≡◌, false, take, flat_map, option_to_list, has}
use Rattle.layout_check.proofs.entry.is_global.Given as goal

abbrev pub invariant-loop-latch : goal.invariant-loop-latch
invariant-loop-latch l = has (flat_map (λ latch. option_to_list latch.control) (take l.latch-index l.latch-items)) l.net ≡ false
