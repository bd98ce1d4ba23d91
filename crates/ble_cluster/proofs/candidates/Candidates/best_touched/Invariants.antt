use Rattle.ble_cluster.proofs.Prelude.{IsBest}
use Rattle.ble_cluster.proofs.ChoosingLemmas.{IsAmongFirst}
use Rattle.ble_cluster.proofs.candidates.Candidates.best_touched.Given as goal

abbrev pub invariant-loop-number : goal.invariant-loop-number
invariant-loop-number l = IsBest l.fn.self.arch.now l.fn.self.elements.now.elements l.fn.self.is_taken.now l.fn.self.growth.now.members.items l.fn.self.growth.now.gains (IsAmongFirst l.number-items l.number-index) l.best
