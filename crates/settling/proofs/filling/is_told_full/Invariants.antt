use Rattle.settling.proofs.Prelude.{take, All, TellsFull}
use Rattle.settling.proofs.filling.is_told_full.Given as goal

-- none of the items so far
abbrev pub invariant-loop-i : goal.invariant-loop-i
invariant-loop-i l = All (λ item. TellsFull item → ⊥) (take l.i l.items)
