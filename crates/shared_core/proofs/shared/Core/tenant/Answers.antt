use Rattle.shared_core.proofs.Prelude.{arith}
use Rattle.shared_core.proofs.Journals.{served}
use Rattle.shared_core.proofs.Kept.{IsAccount-grown}
use Rattle.shared_core.proofs.shared.Core.tenant.Goals as goal

pub invariant_of-self : goal.invariant_of-self
invariant_of-self g c = IsAccount-grown _ _ _ _ _ _ _ _ _ _ _ (served _ _ _ _ _ c.tenant.ensures) (omega arith) (λ e. absurd (let never = c.requires in cc)) c.self.invariant
