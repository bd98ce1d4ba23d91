use Rattle.layout_files.proofs.Prelude.{◌≤◌, length, sym, flat_map-map, line_of, ble_line}
use Rattle.layout_files.proofs.Printing.{all_printed, element, one_more, printed_as}
use Rattle.layout_files.proofs.net_print.print_bles.Goals as goal

pub returns : goal.returns
returns c =
    let xs = c.args.bles.now in
    let past : length xs ≤ c.loop-ble.ble-index = c.loop-ble-test.false in
    printed_as _ _ _ _ (all_printed (λ ble. line_of (ble_line c.args.circuit.now c.args.arch.now ble)) xs c.loop-ble.ble-index _ _ past c.loop-ble.invariant) (sym (flat_map-map line_of (ble_line c.args.circuit.now c.args.arch.now) xs))

pub loop-ble-preserved : goal.loop-ble-preserved
loop-ble-preserved c =
    one_more (λ ble. line_of (ble_line c.args.circuit.now c.args.arch.now ble)) c.args.bles.now c.loop-ble.ble-index c.ble-item.result c.args.print.now c.loop-ble.print c.print_ble.new.print
    (element c.args.bles.now c.loop-ble.ble-index c.ble-item.result c.loop-ble-test.true c.ble-item.is) c.loop-ble.invariant c.print_ble.ensures
