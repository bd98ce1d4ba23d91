use Rattle.longest_path.proofs.Prelude.{IsLedTo}
use Rattle.longest_path.proofs.loops.marked_back.Given as goal

-- none of the tables before this one leads to the net from a marked net
abbrev pub invariant-loop-place : goal.invariant-loop-place
invariant-loop-place l = IsLedTo l.tables l.place l.marks l.net → ⊥
