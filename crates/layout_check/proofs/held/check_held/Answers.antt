use Rattle.layout_check.proofs.HeldTold.{ble_small, ble_told, latch_small, latch_told, table_small, table_told}
use Rattle.layout_check.proofs.held.check_held.Goals as goal

pub ble_number-requires : goal.ble_number-requires
ble_number-requires c =
    ble_small c.args.circuit.now c.args.graph.now c.args.layout.now c.blocks-blocks.result.now c.blocks-blocks.ensures c.in-Ble.place c.in-Ble.fault (rw c.in-Ble.is at (rw c.in-Some.is at c.in_ok-fault.ensures))

pub ble_number-first-requires : goal.ble_number-first-requires
ble_number-first-requires c =
    (table_small c.args.circuit.now c.args.graph.now c.args.layout.now c.blocks-blocks.result.now c.blocks-blocks.ensures c.in-TableTwice.table c.in-TableTwice.place c.in-TableTwice.other (rw c.in-TableTwice.is at (rw c.in-Some.is at c.in_ok-fault.ensures))).0

pub ble_number-second-requires : goal.ble_number-second-requires
ble_number-second-requires c =
    (table_small c.args.circuit.now c.args.graph.now c.args.layout.now c.blocks-blocks.result.now c.blocks-blocks.ensures c.in-TableTwice.table c.in-TableTwice.place c.in-TableTwice.other (rw c.in-TableTwice.is at (rw c.in-Some.is at c.in_ok-fault.ensures))).1

pub ble_number-first-requires-in-LatchTwice : goal.ble_number-first-requires-in-LatchTwice
ble_number-first-requires-in-LatchTwice c =
    (latch_small c.args.circuit.now c.args.graph.now c.args.layout.now c.blocks-blocks.result.now c.blocks-blocks.ensures c.in-LatchTwice.latch c.in-LatchTwice.place c.in-LatchTwice.other (rw c.in-LatchTwice.is at (rw c.in-Some.is at c.in_ok-fault.ensures))).0

pub ble_number-second-requires-in-LatchTwice : goal.ble_number-second-requires-in-LatchTwice
ble_number-second-requires-in-LatchTwice c =
    (latch_small c.args.circuit.now c.args.graph.now c.args.layout.now c.blocks-blocks.result.now c.blocks-blocks.ensures c.in-LatchTwice.latch c.in-LatchTwice.place c.in-LatchTwice.other (rw c.in-LatchTwice.is at (rw c.in-Some.is at c.in_ok-fault.ensures))).1

pub returns-in-Ble : goal.returns-in-Ble
returns-in-Ble c =
    ble_told c.args.circuit.now c.args.graph.now c.args.layout.now c.blocks-blocks.result.now c.blocks-blocks.ensures c.in-Ble.place c.in-Ble.fault c.ble_number.result c.ble_number.ensures (rw c.in-Ble.is at (rw c.in-Some.is at c.in_ok-fault.ensures))

pub returns-in-TableTwice : goal.returns-in-TableTwice
returns-in-TableTwice c =
    table_told c.args.circuit.now c.args.graph.now c.args.layout.now c.blocks-blocks.result.now c.blocks-blocks.ensures c.in-TableTwice.table c.in-TableTwice.place c.in-TableTwice.other c.ble_number-first.result c.ble_number-second.result c.ble_number-first.ensures c.ble_number-second.ensures (rw c.in-TableTwice.is at (rw c.in-Some.is at c.in_ok-fault.ensures))

pub returns-in-LatchTwice : goal.returns-in-LatchTwice
returns-in-LatchTwice c =
    latch_told c.args.circuit.now c.args.graph.now c.args.layout.now c.blocks-blocks.result.now c.blocks-blocks.ensures c.in-LatchTwice.latch c.in-LatchTwice.place c.in-LatchTwice.other c.ble_number-first-in-LatchTwice.result c.ble_number-second-in-LatchTwice.result c.ble_number-first-in-LatchTwice.ensures c.ble_number-second-in-LatchTwice.ensures (rw c.in-LatchTwice.is at (rw c.in-Some.is at c.in_ok-fault.ensures))
