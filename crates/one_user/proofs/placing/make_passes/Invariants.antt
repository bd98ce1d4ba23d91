use Rattle.one_user.proofs.Prelude.{ℕ, ◌≡◌, ◌≤◌, false, is_past_last}
use Rattle.one_user.proofs.placing.make_passes.Given as goal

abbrev pub invariant-loop-pass : goal.invariant-loop-pass
invariant-loop-pass l = record {
  is : l.placing ≡ record l.fn.placing { passes = l._pass };
  before : (fewer : ℕ) → fewer ≤ l._pass → is_past_last l.fn.placing.strip fewer ≡ false;
}
