use Rattle.shared_core.proofs.Kept.{IsAccount-evicted}
use Rattle.shared_core.proofs.shared.Core.evict.Goals as goal

pub invariant_of-self-2 : goal.invariant_of-self-2
invariant_of-self-2 g c = rw c.hand.ensures (IsAccount-evicted _ _ _ _ c.args.id _ _ _ _ _ c.requires c.in_ok-evict.ensures c.self.invariant)
