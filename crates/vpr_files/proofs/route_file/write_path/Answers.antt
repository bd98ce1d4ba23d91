use Rattle.vpr_files.proofs.Prelude.{◌≤◌, length, sym, arith, flat_map-map, slice_get-get_or, Node, Source, node_line, line_of, all_loop_end, all_same, part_loop, part_same, writes_part}
use Rattle.vpr_files.proofs.route_file.write_path.Goals as goal

pub returns-in_err-write_node_line : goal.returns-in_err-write_node_line
returns-in_err-write_node_line g c =
    let path = c.args.path.now in
    let none : Node = record { x = 0; kind = Source; y = 0; n = 0 } in
    writes_part c.from_residual.result c.from_residual.ensures.0
    (part_same
    (part_loop (λ node. line_of (node_line c.args.strip node)) path c.loop-node.node-index _ (slice_get-get_or path c.loop-node.node-index none c.loop-node-test.true) c.loop-node.invariant c.in_err-write_node_line.ensures)
    (sym (flat_map-map line_of (node_line c.args.strip) path)))

pub returns : goal.returns
returns g c =
    let path = c.args.path.now in
    let past : length path ≤ c.loop-node.node-index = (let h = c.loop-node-test.false in omega (arith, h)) in
    all_same (all_loop_end (λ node. line_of (node_line c.args.strip node)) path c.loop-node.node-index past c.loop-node.invariant)
    (sym (flat_map-map line_of (node_line c.args.strip) path))
