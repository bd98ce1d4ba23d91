use Rattle.fabric_planes.proofs.Prelude.{◌≡◌, ◌<◌, ℕ, slice_index_or, PinAt}
use Rattle.fabric_planes.proofs.net_planes.NetPlanes.pin_at.Given as goal

abbrev pub invariant-loop-pin : goal.invariant-loop-pin
invariant-loop-pin g l = (k : ℕ) (d : PinAt) → k < l.pin-index → (slice_index_or l.self.shown.now k d).place ≡ l.place → ⊥
