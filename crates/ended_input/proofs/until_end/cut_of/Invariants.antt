use Rattle.std.proofs.Common.{◌-◌, ◌≤◌, length}
use Rattle.ended_input.proofs.UntilEndLemmas.{CutsAt}
use Rattle.ended_input.proofs.until_end.cut_of.Given as goal

-- the bytes so far are given
abbrev pub invariant-loop-place : goal.invariant-loop-place
invariant-loop-place l = record {
  within : l.place ≤ length l.bytes;
  cuts : CutsAt l.fn.at_start l.bytes l.place l.start;
}

abbrev pub decreases-loop-place : goal.decreases-loop-place
decreases-loop-place l = length l.bytes - l.place
