use Rattle.vpr_files.proofs.Prelude.{sym, flat_map, flat_map-append, blocks_of, line_of, text_of, block_lines, net_text_of, global_lines, part_first, part_same, writes_part, writes_same, writes_then}
use Rattle.vpr_files.proofs.net_file.net_text.Goals as goal

pub returns-in_err-write_globals : goal.returns-in_err-write_globals
unfolding net_text_of
returns-in_err-write_globals g c =
    let packed = c.args.packed.now in
    let blocks = flat_map (block_lines packed) (blocks_of packed) in
    writes_part c.from_residual.result c.from_residual.ensures.0
    (part_same (part_first (text_of blocks) c.in_err-write_globals.ensures) (sym (flat_map-append line_of (global_lines packed) blocks)))

pub returns : goal.returns
unfolding net_text_of
returns g c =
    let packed = c.args.packed.now in
    let blocks = flat_map (block_lines packed) (blocks_of packed) in
    writes_same g.W.Sink.contents g.W.Sink.has_failed _ _ _ _ c.write_blocks.result
    (sym (flat_map-append line_of (global_lines packed) blocks))
    (writes_then c.in_ok-write_globals.ensures _ (text_of blocks) c.write_blocks.result c.write_blocks.ensures)
