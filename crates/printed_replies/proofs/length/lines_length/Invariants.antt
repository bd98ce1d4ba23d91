use Rattle.printed_replies.proofs.Prelude.{◌≡◌, ◌+◌, ◌-◌, ◌≤◌, length, option_map, lines_length}
use Rattle.printed_replies.proofs.length.lines_length.Given as goal

-- the lines so far and the remaining ones are all lines
abbrev pub invariant-loop-left : goal.invariant-loop-left
invariant-loop-left l = record {
  within : length l.rest ≤ length l.bytes;
  same : option_map (λ more. (length l.bytes - length l.rest) + more) (lines_length l.left l.rest) ≡ lines_length l.count l.bytes;
}

abbrev pub decreases-loop-left : goal.decreases-loop-left
decreases-loop-left l = l.left
