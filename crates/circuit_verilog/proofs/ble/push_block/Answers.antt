use Rattle.circuit_verilog.proofs.Prelude.{latch_driving, past_from, read_from, ble_text, state_text, table_text}
use Rattle.circuit_verilog.proofs.Lists.{all_texts, one_more, then}
use Rattle.circuit_verilog.proofs.ble.push_block.Goals as goal

pub loop-ble-preserved : goal.loop-ble-preserved
loop-ble-preserved c =
    let netlist = c.args.design.netlist.now in
    let circuit = c.args.design.circuit.now in
    let arch = c.args.design.arch.now in
    let laid = c.args.laid.now in
    let at = c.loop-ble.ble-index in
    let ble = c.ble-item.result in
    let written = then c.loop-ble.text.items c.push_table.new.text.items c.push_latch.new.text.items (table_text netlist circuit arch laid ble) (state_text netlist arch laid ble (latch_driving circuit ble.name)) c.in_ok-push_table.ensures c.in_ok-push_latch.ensures in
    one_more (ble_text netlist circuit arch laid) laid.bles at ble c.args.text.now.items c.loop-ble.text.items c.push_latch.new.text.items
    (read_from c.bles-ble-items.result.now laid.bles c.bles-ble-items.ensures at ble c.loop-ble-test.true c.ble-item.is) c.loop-ble.invariant written

pub returns : goal.returns
returns c =
    let bles = c.args.laid.now.bles in
    all_texts (ble_text c.args.design.netlist.now c.args.design.circuit.now c.args.design.arch.now c.args.laid.now) bles c.loop-ble.ble-index c.args.text.now.items c.loop-ble.text.items
    (past_from c.bles-ble-items.result.now bles c.bles-ble-items.ensures c.loop-ble.ble-index c.loop-ble-test.false) c.loop-ble.invariant
