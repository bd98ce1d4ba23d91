use Rattle.layout_check.proofs.Prelude.{IsNarrowBle, IsFed}
use Rattle.layout_check.proofs.Matches.{all_done, all_next}
use Rattle.layout_check.proofs.bles.check_bles.Goals as goal

pub loop-number-preserved : goal.loop-number-preserved
loop-number-preserved c =
    let said = rw c.in_default.is at c.check_ble.ensures in (
      all_next (IsFed c.args.arch.now c.args.block.now) c.args.bles.now c.loop-number.number c.index-bles-number.result c.loop-number-test.true c.index-bles-number.is c.loop-number.invariant.0 said.0,
      all_next (IsNarrowBle c.args.arch.now) c.args.bles.now c.loop-number.number c.index-bles-number.result c.loop-number-test.true c.index-bles-number.is c.loop-number.invariant.1 said.1,
    )

pub returns : goal.returns
returns c = (
  all_done (IsFed c.args.arch.now c.args.block.now) c.args.bles.now c.loop-number.number c.loop-number-test.false c.loop-number.invariant.0,
  all_done (IsNarrowBle c.args.arch.now) c.args.bles.now c.loop-number.number c.loop-number-test.false c.loop-number.invariant.1,
)
