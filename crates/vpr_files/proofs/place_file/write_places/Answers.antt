use Rattle.vpr_files.proofs.Prelude.{◌≡◌, ◌∙◌, ◌<◌, ◌≤◌, ℕ, List, length, sym, ap, arith, range_with_len, flat_map-map, blocks_of, PackedCircuit, Place, places_by_block, place_of, placed_line, line_of, all_loop, all_range_end, all_same, part_loop, part_same, place_at, writes_part}
use Rattle.vpr_files.proofs.place_file.write_places.Goals as goal

-- the line of a block
abbrev line : PackedCircuit → ℕ → Place → List ℕ
line packed block place = line_of (placed_line packed block place)

pub returns-in_err-write_place : goal.returns-in_err-write_place
returns-in_err-write_place g c =
    let packed = c.args.placing.now.packed in
    let places = places_by_block c.args.placing.now in
    let block = c.loop-block.block in
    let count : c.block_count-block-end.result ≡ length (blocks_of packed) = c.block_count-block-end.ensures ∙ ap (λ (p : PackedCircuit). length (blocks_of p)) c.packed.ensures in
    let within : block < length (blocks_of packed) = (let t = c.loop-block-test.true in omega (arith, t, count)) in
    writes_part c.from_residual.result c.from_residual.ensures.0
    (part_same
    (part_loop (λ one. line packed one (place_of places one)) (range_with_len 0 (length (blocks_of packed))) block block (place_at (length (blocks_of packed)) block within) c.loop-block.invariant
    c.in_err-write_place.ensures)
    (sym (flat_map-map line_of (λ one. placed_line packed one (place_of places one)) (range_with_len 0 (length (blocks_of packed))))))

pub loop-block-preserved : goal.loop-block-preserved
loop-block-preserved g c =
    let packed = c.args.placing.now.packed in
    let places = places_by_block c.args.placing.now in
    let block = c.loop-block.block in
    let count : c.block_count-block-end.result ≡ length (blocks_of packed) = c.block_count-block-end.ensures ∙ ap (λ (p : PackedCircuit). length (blocks_of p)) c.packed.ensures in
    let within : block < length (blocks_of packed) = (let t = c.loop-block-test.true in omega (arith, t, count)) in
    all_loop (λ one. line packed one (place_of places one)) (range_with_len 0 (length (blocks_of packed))) block block (place_at (length (blocks_of packed)) block within) c.loop-block.invariant
    c.in_ok-write_place.ensures

pub returns : goal.returns
returns g c =
    let packed = c.args.placing.now.packed in
    let places = places_by_block c.args.placing.now in
    let count : c.block_count-block-end.result ≡ length (blocks_of packed) = c.block_count-block-end.ensures ∙ ap (λ (p : PackedCircuit). length (blocks_of p)) c.packed.ensures in
    let past : length (blocks_of packed) ≤ c.loop-block.block = (let t = c.loop-block-test.false in omega (arith, t, count)) in
    all_same (all_range_end (λ one. line packed one (place_of places one)) (length (blocks_of packed)) c.loop-block.block past c.loop-block.invariant)
    (sym (flat_map-map line_of (λ one. placed_line packed one (place_of places one)) (range_with_len 0 (length (blocks_of packed)))))
