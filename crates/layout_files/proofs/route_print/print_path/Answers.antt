use Rattle.layout_files.proofs.Prelude.{◌≤◌, ◌∷◌, [], length, sym, flat_map-map, line_of, node_text_of}
use Rattle.layout_files.proofs.Printing.{all_printed, next_printed, printed_as}
use Rattle.layout_files.proofs.route_print.print_path.Goals as goal

pub returns : goal.returns
returns c =
    let xs = c.args.path.now in
    let past : length xs ≤ c.loop-node.node-index = c.loop-node-test.false in
    printed_as _ _ _ _ (all_printed (λ node. line_of (node_text_of c.args.rows node ∷ [])) xs c.loop-node.node-index _ _ past c.loop-node.invariant) (sym (flat_map-map line_of (λ node. node_text_of c.args.rows node ∷ []) xs))

pub loop-node-preserved : goal.loop-node-preserved
loop-node-preserved c =
    next_printed (λ node. line_of (node_text_of c.args.rows node ∷ [])) c.args.path.now c.loop-node.node-index _ c.args.print.now c.loop-node.print c.print_node.new.print c.loop-node-test.true c.loop-node.invariant c.print_node.ensures
