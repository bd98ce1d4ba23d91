use Rattle.layout_files.proofs.Prelude.{◌≤◌, length, sym, arith, enumerate_from, flat_map-map, line_of, place_line, length-enumerate_from}
use Rattle.layout_files.proofs.Printing.{all_printed, numbered, one_more, printed_as}
use Rattle.layout_files.proofs.place_print.print_places.Goals as goal

pub loop-number-preserved : goal.loop-number-preserved
loop-number-preserved c =
    let blocks = c.args.blocks.now in
    let number = c.loop-number.number in
    one_more (λ block. line_of (place_line c.args.circuit.now block.0 block.1)) (enumerate_from 0 blocks) number (number, c.index-blocks-number.result) _ _ _
    (numbered blocks number c.index-blocks-number.result c.loop-number-test.true c.index-blocks-number.is) c.loop-number.invariant c.print_place.ensures

pub returns : goal.returns
returns c =
    let xs = enumerate_from 0 c.args.blocks.now in
    let past : length xs ≤ c.loop-number.number = (let f = c.loop-number-test.false in omega (arith, f, length-enumerate_from 0 c.args.blocks.now)) in
    printed_as _ _ _ _ (all_printed (λ block. line_of (place_line c.args.circuit.now block.0 block.1)) xs c.loop-number.number _ _ past c.loop-number.invariant)
    (sym (flat_map-map line_of (λ block. place_line c.args.circuit.now block.0 block.1) xs))
