use Rattle.layout_check.proofs.Prelude.{sym, leaves_as}
use Rattle.layout_check.proofs.ByNet.{noted_all, noted_more, noted_start}
use Rattle.layout_check.proofs.net_blocks.NetLists.note_bles.Goals as goal

pub loop-ble-init : goal.loop-ble-init
loop-ble-init c = noted_start c.args.number c.args.limit leaves_as c.args.bles.now c.args.self.now.marks c.args.self.now.lists c.requires.marks c.requires.lists

pub note_ble-requires : goal.note_ble-requires
note_ble-requires c = record { marks = c.loop-ble.invariant.marked; lists = c.loop-ble.invariant.long }

pub loop-ble-preserved : goal.loop-ble-preserved
loop-ble-preserved c =
    noted_more c.args.number c.args.limit leaves_as c.args.bles.now c.loop-ble.ble-index c.ble-item.result c.args.self.now.marks c.loop-ble.self.marks c.note_ble.new.self.marks c.args.self.now.lists c.loop-ble.self.lists c.note_ble.new.self.lists c.loop-ble-test.true
    (sym c.ble-item.is) c.loop-ble.invariant c.in_ok-note_ble.ensures

pub returns : goal.returns
returns c = noted_all c.args.number c.args.limit leaves_as c.args.bles.now c.loop-ble.ble-index c.args.self.now.marks c.loop-ble.self.marks c.args.self.now.lists c.loop-ble.self.lists c.loop-ble-test.false c.loop-ble.invariant
