use Rattle.ble_cluster.proofs.Prelude.{◌≡◌, ◌<◌, ℕ, false, is_candidate}
use Rattle.ble_cluster.proofs.candidates.Candidates.fitting_from.Given as goal

abbrev pub invariant-loop-number : goal.invariant-loop-number
invariant-loop-number l = (other : ℕ) → other < l.number → is_candidate l.fn.self.arch.now l.fn.self.elements.now.elements l.fn.self.is_taken.now l.fn.self.growth.now.members.items other ≡ false
