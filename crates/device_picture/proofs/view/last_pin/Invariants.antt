use Rattle.std.proofs.Common.{◌≤◌}
use Rattle.device_picture.proofs.view.last_pin.Given as goal

abbrev pub invariant-loop-owned : goal.invariant-loop-owned
invariant-loop-owned l = l.last ≤ 144
