use Rattle.std.proofs.Common.{◌≤◌}
use Rattle.device_picture.proofs.view.longest_name.Given as goal

abbrev pub invariant-loop-tenancy : goal.invariant-loop-tenancy
invariant-loop-tenancy l = l.longest ≤ 32
