use Rattle.one_user.proofs.Prelude.{◌≤◌}
use Rattle.one_user.proofs.figures.fullest_channel.Given as goal

abbrev pub invariant-loop-number : goal.invariant-loop-number
invariant-loop-number l = l.wires ≤ l.number
