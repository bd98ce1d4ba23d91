use Rattle.shared_core.proofs.Prelude.{◌≡◌, false, replicate, AreSlotted}
use Rattle.shared_core.proofs.Wrapped.{live_upto}
use Rattle.shared_core.proofs.wrapping.slots_of.Given as goal

abbrev pub invariant-loop-index : goal.invariant-loop-index
invariant-loop-index l = AreSlotted (live_upto l.service.histories l.index) l.slots.holders × (l.slots.queued ≡ replicate 64 false)
