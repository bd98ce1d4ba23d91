use Rattle.layout_check.proofs.Prelude.{IsBlockRight}
use Rattle.layout_check.proofs.Matches.{all_done, all_next}
use Rattle.layout_check.proofs.blocks.check_blocks.Goals as goal

pub loop-number-preserved : goal.loop-number-preserved
loop-number-preserved c =
    let said = rw c.in_default.is at c.check_block.ensures in
    all_next (IsBlockRight c.args.arch.now c.args.strip) c.args.blocks.now c.loop-number.number c.index-blocks-number.result c.loop-number-test.true c.index-blocks-number.is c.loop-number.invariant said

pub returns : goal.returns
returns c = all_done (IsBlockRight c.args.arch.now c.args.strip) c.args.blocks.now c.loop-number.number c.loop-number-test.false c.loop-number.invariant
