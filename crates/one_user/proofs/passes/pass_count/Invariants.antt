use Rattle.one_user.proofs.Prelude.{ℕ, ◌≡◌, ◌+◌, ◌<◌, ◌≤◌, temperature_at}
use Rattle.one_user.proofs.passes.pass_count.Given as goal

abbrev pub invariant-loop-passes : goal.invariant-loop-passes
invariant-loop-passes l = record {
  is : l.temperature ≡ temperature_at l.fn.strip l.passes;
  low : l.temperature + l.passes ≤ 320;
  warm : (before : ℕ) → before < l.passes → 0 < temperature_at l.fn.strip before;
}
