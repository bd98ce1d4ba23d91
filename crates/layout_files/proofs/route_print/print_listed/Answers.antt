use Rattle.layout_files.proofs.Prelude.{◌≤◌, length, sym, flat_map-map, line_of, block_of, listed_line}
use Rattle.layout_files.proofs.Printing.{all_printed, next_printed, printed_as}
use Rattle.layout_files.proofs.route_print.print_listed.Goals as goal

pub returns : goal.returns
returns c =
    let xs = c.args.listed.now in
    let past : length xs ≤ c.loop-number.number-index = c.loop-number-test.false in
    printed_as _ _ _ _ (all_printed (λ block. line_of (listed_line c.args.circuit.now block (block_of c.args.layout.now block))) xs c.loop-number.number-index _ _ past c.loop-number.invariant) (sym (flat_map-map line_of (λ block. listed_line c.args.circuit.now block (block_of c.args.layout.now block)) xs))

pub loop-number-preserved : goal.loop-number-preserved
loop-number-preserved c =
    next_printed (λ block. line_of (listed_line c.args.circuit.now block (block_of c.args.layout.now block))) c.args.listed.now c.loop-number.number-index 0 c.args.print.now c.loop-number.print c.print_block.new.print c.loop-number-test.true c.loop-number.invariant c.print_block.ensures
