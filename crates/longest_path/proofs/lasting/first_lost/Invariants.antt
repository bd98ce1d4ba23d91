use Rattle.longest_path.proofs.Prelude.{ℕ, ◌<◌, IsMarked}
use Rattle.longest_path.proofs.lasting.first_lost.Given as goal

-- none of the nets before this one is lost
abbrev pub invariant-loop-net : goal.invariant-loop-net
invariant-loop-net l = (k : ℕ) → k < l.net → IsMarked l.marks k → IsMarked l.next k
