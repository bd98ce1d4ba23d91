use Rattle.layout_check.proofs.Prelude.{take, All, IsNarrowBle, IsFed}
use Rattle.layout_check.proofs.bles.check_bles.Given as goal

abbrev pub invariant-loop-number : goal.invariant-loop-number
invariant-loop-number l = All (IsFed l.arch l.block) (take l.number l.bles) × All (IsNarrowBle l.arch) (take l.number l.bles)
