use Rattle.vpr_files.proofs.Prelude.{◌≤◌, [], length, map, slice_index_or, sym, arith, node_line, line_of, text_of, all_loop, all_loop_end, all_same, part_loop, part_same, writes_part}
use Rattle.vpr_files.proofs.TextLemmas.{flat_map-flat_map}
use Rattle.vpr_files.proofs.route_file.write_paths.Goals as goal

pub returns-in_err-write_path : goal.returns-in_err-write_path
returns-in_err-write_path g c =
    let paths = slice_index_or c.args.routes.now c.args.net [] in
    writes_part c.from_residual.result c.from_residual.ensures.0
    (part_same
    (part_loop (λ path. text_of (map (node_line c.args.strip) path)) paths c.loop-number.number c.path.result.now c.path.ensures c.loop-number.invariant c.in_err-write_path.ensures)
    (sym (flat_map-flat_map line_of (map (node_line c.args.strip)) paths)))

pub loop-number-preserved : goal.loop-number-preserved
loop-number-preserved g c =
    all_loop (λ path. text_of (map (node_line c.args.strip) path)) (slice_index_or c.args.routes.now c.args.net []) c.loop-number.number c.path.result.now c.path.ensures c.loop-number.invariant c.in_ok-write_path.ensures

pub returns : goal.returns
returns g c =
    let paths = slice_index_or c.args.routes.now c.args.net [] in
    let past : length paths ≤ c.loop-number.number = (let h = c.loop-number-test.false in let e = c.path_count-number-end.ensures in omega (arith, h, e)) in
    all_same (all_loop_end (λ path. text_of (map (node_line c.args.strip) path)) paths c.loop-number.number past c.loop-number.invariant)
    (sym (flat_map-flat_map line_of (map (node_line c.args.strip)) paths))
