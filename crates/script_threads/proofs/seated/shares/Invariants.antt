use Rattle.script_threads.proofs.Prelude.{◌≡◌}
use Rattle.script_threads.proofs.seated.shares.Given as goal

-- the number of shares that were given so far
abbrev pub invariant-loop-worker : goal.invariant-loop-worker
invariant-loop-worker g l = record {
  service : l.core.service ≡ l.fn.core.service;
  marks : l.core.marks ≡ l.fn.core.marks;
  given : l.core.shares ≡ l._worker;
}
