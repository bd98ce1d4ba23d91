use Rattle.live_log.proofs.Prelude.{take, FitFlags}
use Rattle.live_log.proofs.marks.Marks.kept_flags.Given as goal

-- each line so far has the flag that fits its mark
abbrev pub invariant-loop-mark : goal.invariant-loop-mark
invariant-loop-mark l = FitFlags (take l.mark-index l.mark-items) l.kept.items
