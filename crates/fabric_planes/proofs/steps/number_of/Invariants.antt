use Rattle.fabric_planes.proofs.Prelude.{◌≡◌}
use Rattle.fabric_planes.proofs.steps.number_of.Given as goal

abbrev pub invariant-loop-number : goal.invariant-loop-number
invariant-loop-number l = l.rows ≡ l.fn.rows
