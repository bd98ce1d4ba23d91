use Rattle.layout_files.proofs.Prelude.{◌∙◌, ◌≤◌, ap, length, sym, line_of, text_of, node_lines, left_after}
use Rattle.layout_files.proofs.Lines.{flat_map-flat_map}
use Rattle.layout_files.proofs.Printing.{all_printed, element, one_more, printed_as}
use Rattle.layout_files.proofs.route_print.print_paths.Goals as goal

pub returns : goal.returns
returns c =
    let xs = c.args.paths.now in
    let past : length xs ≤ c.loop-path.path-index = c.loop-path-test.false in
    printed_as _ _ _ _ (all_printed (λ path. text_of (node_lines c.args.rows path)) xs c.loop-path.path-index _ _ past c.loop-path.invariant) (sym (flat_map-flat_map line_of (node_lines c.args.rows) xs))

pub loop-path-preserved : goal.loop-path-preserved
loop-path-preserved c =
    one_more (λ path. text_of (node_lines c.args.rows path)) c.args.paths.now c.loop-path.path-index c.path-item.result c.args.print.now c.loop-path.print c.print_path.new.print
    (element c.args.paths.now c.loop-path.path-index c.path-item.result c.loop-path-test.true c.path-item.is) c.loop-path.invariant (c.print_path.ensures ∙ ap (λ nodes. left_after c.loop-path.print (text_of (node_lines c.args.rows nodes))) c.nodes.ensures)
