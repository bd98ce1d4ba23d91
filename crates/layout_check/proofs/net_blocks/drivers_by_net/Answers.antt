use Rattle.layout_check.proofs.Prelude.{sym, ◌∙◌, drives}
use Rattle.layout_check.proofs.ByNet.{lists_all, lists_more, lists_start}
use Rattle.layout_check.proofs.net_blocks.drivers_by_net.Goals as goal

pub loop-number-init : goal.loop-number-init
loop-number-init c = (c.in_ok-found.ensures.marks, lists_start drives c.args.blocks.now c.args.limit c.in_ok-found.found.lists c.in_ok-found.ensures.lists)

pub note_driver-requires : goal.note_driver-requires
note_driver-requires c = record { marks = c.clear.ensures.long ∙ c.loop-number.invariant.0; lists = c.loop-number.invariant.1.long }

pub loop-number-preserved : goal.loop-number-preserved
loop-number-preserved c = (
  c.in_ok-note_driver.ensures.marked,
  lists_more drives c.args.blocks.now c.args.limit c.loop-number.number c.index-blocks-number.result c.clear.new.self c.note_driver.new.self.marks c.loop-number.found.lists c.note_driver.new.self.lists c.loop-number-test.true (sym c.index-blocks-number.is)
      c.clear.ensures.clear c.loop-number.invariant.1 c.in_ok-note_driver.ensures,
)

pub returns : goal.returns
returns c = lists_all drives c.args.blocks.now c.args.limit c.loop-number.number c.loop-number.found.lists c.loop-number-test.false c.loop-number.invariant.1
