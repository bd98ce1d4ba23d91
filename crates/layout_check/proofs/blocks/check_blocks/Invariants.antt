use Rattle.layout_check.proofs.Prelude.{take, All, IsBlockRight}
use Rattle.layout_check.proofs.blocks.check_blocks.Given as goal

abbrev pub invariant-loop-number : goal.invariant-loop-number
invariant-loop-number l = All (IsBlockRight l.arch l.strip) (take l.number l.blocks)
