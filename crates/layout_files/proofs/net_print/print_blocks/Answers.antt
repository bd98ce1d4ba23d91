use Rattle.layout_files.proofs.Prelude.{◌≤◌, length, sym, line_of, text_of, laid_lines}
use Rattle.layout_files.proofs.Lines.{flat_map-flat_map}
use Rattle.layout_files.proofs.Printing.{all_printed, element, one_more, printed_as}
use Rattle.layout_files.proofs.net_print.print_blocks.Goals as goal

pub returns : goal.returns
returns c =
    let xs = c.args.blocks.now in
    let past : length xs ≤ c.loop-laid.laid-index = c.loop-laid-test.false in
    printed_as _ _ _ _ (all_printed (λ laid. text_of (laid_lines c.args.circuit.now c.args.arch.now laid)) xs c.loop-laid.laid-index _ _ past c.loop-laid.invariant) (sym (flat_map-flat_map line_of (laid_lines c.args.circuit.now c.args.arch.now) xs))

pub loop-laid-preserved : goal.loop-laid-preserved
loop-laid-preserved c =
    one_more (λ laid. text_of (laid_lines c.args.circuit.now c.args.arch.now laid)) c.args.blocks.now c.loop-laid.laid-index c.laid-item.result c.args.print.now c.loop-laid.print c.print_block.new.print
    (element c.args.blocks.now c.loop-laid.laid-index c.laid-item.result c.loop-laid-test.true c.laid-item.is) c.loop-laid.invariant c.print_block.ensures
