use Rattle.fabric_planes.proofs.Prelude.{◌≡◌, ◌<◌, ℕ, slice_index}
use Rattle.fabric_planes.proofs.net_planes.NetPlanes.side_of.Given as goal

abbrev pub invariant-loop-number : goal.invariant-loop-number
invariant-loop-number g l = (side : ℕ) → side < l.number → slice_index l.self.sides.now side ≡ l.place → ⊥
