use Rattle.live_lines.proofs.Prelude.{◌≡◌, ◌+◌, ◌≤◌, length, physical_lines}
use Rattle.live_lines.proofs.counted.count_lines.Given as goal

-- the lines so far, and those that are left
abbrev pub invariant-loop-rest : goal.invariant-loop-rest
invariant-loop-rest l = record {
  within : l.count + length l.rest ≤ length l.text;
  all : l.count + length (physical_lines l.rest) ≡ length (physical_lines l.text);
}

abbrev pub decreases-loop-rest : goal.decreases-loop-rest
decreases-loop-rest l = length l.rest
