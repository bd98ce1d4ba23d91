use Rattle.shared_core.proofs.Kept.{IsAccount-moved}
use Rattle.shared_core.proofs.shared.Core.move_strip.Goals as goal

pub invariant_of-self : goal.invariant_of-self
invariant_of-self g c = IsAccount-moved _ _ _ _ c.args.id c.args.offset _ _ _ _ _ _ c.requires c.move_strip.ensures c.self.invariant
