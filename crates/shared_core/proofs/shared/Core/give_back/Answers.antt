use Rattle.shared_core.proofs.Prelude.{arith}
use Rattle.shared_core.proofs.Journals.{given_back}
use Rattle.shared_core.proofs.Kept.{IsAccount-grown}
use Rattle.shared_core.proofs.Reaching.{reached_given_back}
use Rattle.shared_core.proofs.shared.Core.give_back.Goals as goal

pub invariant_of-self : goal.invariant_of-self
invariant_of-self g c = IsAccount-grown _ _ _ _ _ _ _ _ _ _ _ (given_back _ _ _ c.give_back.ensures) (omega arith) (λ e. reached_given_back _ _ _ _ _ c.give_back.ensures) c.self.invariant
