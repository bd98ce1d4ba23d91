use Rattle.one_user.proofs.Prelude.{◌≡◌, ◌≤◌, temperature_at}
use Rattle.one_user.proofs.passes.temperature_after.Given as goal

abbrev pub invariant-loop-pass : goal.invariant-loop-pass
invariant-loop-pass l = record {
  is : l.temperature ≡ temperature_at l.fn.strip l._pass;
  low : l.temperature ≤ 320;
}
