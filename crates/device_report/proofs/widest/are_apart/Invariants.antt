use Rattle.std.proofs.Common.{ℕ, ◌<◌, get_or}
use Rattle.strips.specs.declared.placed_strip.PlacedStrip.{PlacedStrip}
use Rattle.strips.specs.Plan.{AreApart}
use Rattle.device_report.proofs.widest.are_apart.Given as goal

abbrev pub invariant-loop-place : goal.invariant-loop-place
invariant-loop-place l = (j k : ℕ) (d : PlacedStrip) → j < k → k < l.place → AreApart (get_or l.strips j d) (get_or l.strips k d)
