use Rattle.std.proofs.Common.{◌≡◌}
use Rattle.std.specs.Prelude.{All}
use Rattle.thread_tests.proofs.same_told.four_are_seated.Given as goal

abbrev pub invariant-loop-conversation : goal.invariant-loop-conversation
invariant-loop-conversation g l = All (λ p. p.of ≡ l.ready) l.passes.items × All (λ s. (s.pass.of ≡ l.ready) × (s.lease.made ≡ 0)) l.speakers.items
