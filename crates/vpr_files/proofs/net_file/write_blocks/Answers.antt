use Rattle.vpr_files.proofs.Prelude.{◌≤◌, length, sym, arith, blocks_of, line_of, text_of, block_lines, all_loop, all_loop_end, all_same, part_loop, part_same, writes_part}
use Rattle.vpr_files.proofs.ClusterLemmas.{block_is_there}
use Rattle.vpr_files.proofs.TextLemmas.{flat_map-flat_map}
use Rattle.vpr_files.proofs.net_file.write_blocks.Goals as goal

pub write_block-requires : goal.write_block-requires
write_block-requires g c = block_is_there c.args.packed.now c.loop-number.number c.block.result c.block.ensures

pub returns-in_err-write_block : goal.returns-in_err-write_block
returns-in_err-write_block g c =
    let packed = c.args.packed.now in
    writes_part c.from_residual.result c.from_residual.ensures.0
    (part_same
    (part_loop (λ block. text_of (block_lines packed block)) (blocks_of packed) c.loop-number.number c.block.result c.block.ensures c.loop-number.invariant c.in_err-write_block.ensures)
    (sym (flat_map-flat_map line_of (block_lines packed) (blocks_of packed))))

pub loop-number-preserved : goal.loop-number-preserved
loop-number-preserved g c =
    let packed = c.args.packed.now in
    all_loop (λ block. text_of (block_lines packed block)) (blocks_of packed) c.loop-number.number c.block.result c.block.ensures c.loop-number.invariant c.in_ok-write_block.ensures

pub returns : goal.returns
returns g c =
    let packed = c.args.packed.now in
    let long : length (blocks_of packed) ≤ c.loop-number.number = (let h = c.loop-number-test.false in let e = c.block_count-number-end.ensures in omega (arith, h, e)) in
    all_same (all_loop_end (λ block. text_of (block_lines packed block)) (blocks_of packed) c.loop-number.number long c.loop-number.invariant)
    (sym (flat_map-flat_map line_of (block_lines packed) (blocks_of packed)))
