use Rattle.layout_check.proofs.Prelude.{sym, ◌∙◌, wants}
use Rattle.layout_check.proofs.ByNet.{lists_all, lists_more, lists_start}
use Rattle.layout_check.proofs.net_blocks.readers_by_net.Goals as goal

pub loop-number-init : goal.loop-number-init
loop-number-init c = (c.in_ok-found.ensures.marks, lists_start (wants c.args.arch.now) c.args.blocks.now c.args.limit c.in_ok-found.found.lists c.in_ok-found.ensures.lists)

pub note_reader-requires : goal.note_reader-requires
note_reader-requires c = record { marks = c.clear.ensures.long ∙ c.loop-number.invariant.0; lists = c.loop-number.invariant.1.long }

pub loop-number-preserved : goal.loop-number-preserved
loop-number-preserved c = (
  c.in_ok-note_reader.ensures.marked,
  lists_more (wants c.args.arch.now) c.args.blocks.now c.args.limit c.loop-number.number c.index-blocks-number.result c.clear.new.self c.note_reader.new.self.marks c.loop-number.found.lists c.note_reader.new.self.lists c.loop-number-test.true (sym c.index-blocks-number.is)
      c.clear.ensures.clear c.loop-number.invariant.1 c.in_ok-note_reader.ensures,
)

pub returns : goal.returns
returns c = lists_all (wants c.args.arch.now) c.args.blocks.now c.args.limit c.loop-number.number c.loop-number.found.lists c.loop-number-test.false c.loop-number.invariant.1
