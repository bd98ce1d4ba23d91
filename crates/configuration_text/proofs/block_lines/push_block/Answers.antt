use Rattle.configuration_text.proofs.Prelude.{◌≡◌, ◌∙◌, ◌++◌, List, ℕ, ap, slice_index, subst, sym, Block, ble_lines, block_lines_as, lines_text, ConfigurationLine, ble_at, BlePlace, LaidBle}
use Rattle.configuration_text.proofs.Rest.{past_from, read_from}
use Rattle.configuration_text.proofs.Texts.{each_end, each_more}
use Rattle.configuration_text.proofs.block_lines.push_block.Goals as goal

pub loop-index-preserved : goal.loop-index-preserved
loop-index-preserved c =
    let f : ℕ × LaidBle → List ConfigurationLine = λ ble. ble_lines c.args.design.netlist.now c.args.design.circuit.now c.args.design.arch.now c.args.design.layout.now c.args.laid.now (ble_at c.args.design.arch.now c.args.design.layout.now c.args.laid.now ble.0) ble.1 in
    let bles = c.args.laid.now.bles in
    let at = c.loop-index.index in
    let ble = c.ble-item.result in
    let placed : c.place_at-place.result ≡ ble_at c.args.design.arch.now c.args.design.layout.now c.args.laid.now at =
    c.place_at-place.ensures ∙ ap (λ (ns : List ℕ). record { x = c.args.laid.now.place.x; y = c.args.laid.now.place.y; n = slice_index ns at }) (c.as_slice-numbers.ensures.value ∙ c.in_ok-places-in-Cluster.ensures) in
    let written : c.push_ble.new.text.items ≡ c.loop-index.text.items ++ lines_text (f (at, ble)) =
    c.in_ok-push_ble-in-Cluster.ensures ∙ ap (λ (p : BlePlace). c.loop-index.text.items ++ lines_text (ble_lines c.args.design.netlist.now c.args.design.circuit.now c.args.design.arch.now c.args.design.layout.now c.args.laid.now p ble)) placed in
    each_more f bles at c.loop-index.text.items c.args.text.now.items _ ble c.push_ble.new.text.items
    (read_from c.bles-ble-items.result.now bles c.bles-ble-items.ensures at ble c.loop-index-test.true c.ble-item.is) c.loop-index.invariant written

pub returns-after-loop-index : goal.returns-after-loop-index
returns-after-loop-index c =
    let netlist = c.args.design.netlist.now in
    let circuit = c.args.design.circuit.now in
    let arch = c.args.design.arch.now in
    let layout = c.args.design.layout.now in
    let laid = c.args.laid.now in
    let f : ℕ × LaidBle → List ConfigurationLine = λ ble. ble_lines netlist circuit arch layout laid (ble_at arch layout laid ble.0) ble.1 in
    subst (λ (block : Block). c.loop-index.text.items ≡ c.args.text.now.items ++ lines_text (block_lines_as netlist circuit arch layout laid block)) (sym c.in-Cluster.is ∙ c.block.ensures)
    (each_end f laid.bles c.loop-index.index c.loop-index.text.items c.args.text.now.items _
    (past_from c.bles-ble-items.result.now laid.bles c.bles-ble-items.ensures c.loop-index.index c.loop-index-test.false) c.loop-index.invariant)
