use Rattle.one_user.proofs.Prelude.{◌≡◌, ◌≤◌, slot_in}
use Rattle.one_user.proofs.Running.{state_after}
use Rattle.one_user.proofs.steps.make_steps.Given as goal

abbrev pub invariant-loop-step : goal.invariant-loop-step
invariant-loop-step g l = record {
  is : l.slot ≡ slot_in l.fn.slot.id (state_after l.fn.slot.state l._step);
  few : l._step ≤ 8192;
}
