use Rattle.shared_core.proofs.Prelude.{arith}
use Rattle.shared_core.proofs.Journals.{taken}
use Rattle.shared_core.proofs.Kept.{IsAccount-grown}
use Rattle.shared_core.proofs.Reaching.{reached_taken}
use Rattle.shared_core.proofs.shared.Core.take.Goals as goal

pub invariant_of-self : goal.invariant_of-self
invariant_of-self g c = IsAccount-grown _ _ _ _ _ _ _ _ _ _ _ (taken _ _ _ _ c.take.ensures) (omega arith) (λ e. reached_taken _ _ _ _ c.args.id _ c.take.ensures) c.self.invariant
