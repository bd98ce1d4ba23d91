use Rattle.vpr_files.proofs.Prelude.{◌≤◌, ℕ, List, get_or, length, sym, arith, flat_map-map, slice_get-get_or, PackedCircuit, Place, places_by_block, place_of, connected_line, line_of, all_loop, all_loop_end, all_same, part_loop, part_same, writes_part}
use Rattle.vpr_files.proofs.route_file.write_readers.Goals as goal

-- the line of a block
abbrev line : PackedCircuit → ℕ → Place → List ℕ
line packed block place = line_of (connected_line packed block place)

pub returns-in_err-write_block : goal.returns-in_err-write_block
returns-in_err-write_block g c =
    let packed = c.args.placing.now.packed in
    let places = places_by_block c.args.placing.now in
    let readers = c.args.readers.now in
    let at = c.loop-reader.reader-index in
    let block = get_or readers at 0 in
    writes_part c.from_residual.result c.from_residual.ensures.0
    (part_same
    (part_loop (λ one. line packed one (place_of places one)) readers at block (slice_get-get_or readers at 0 c.loop-reader-test.true) c.loop-reader.invariant
    c.in_err-write_block.ensures)
    (sym (flat_map-map line_of (λ one. connected_line packed one (place_of places one)) readers)))

pub loop-reader-preserved : goal.loop-reader-preserved
loop-reader-preserved g c =
    let packed = c.args.placing.now.packed in
    let places = places_by_block c.args.placing.now in
    let readers = c.args.readers.now in
    let at = c.loop-reader.reader-index in
    let block = get_or readers at 0 in
    all_loop (λ one. line packed one (place_of places one)) readers at block (slice_get-get_or readers at 0 c.loop-reader-test.true) c.loop-reader.invariant
    c.in_ok-write_block.ensures

pub returns : goal.returns
returns g c =
    let packed = c.args.placing.now.packed in
    let places = places_by_block c.args.placing.now in
    let readers = c.args.readers.now in
    let past : length readers ≤ c.loop-reader.reader-index = (let t = c.loop-reader-test.false in omega (arith, t)) in
    all_same (all_loop_end (λ one. line packed one (place_of places one)) readers c.loop-reader.reader-index past c.loop-reader.invariant)
    (sym (flat_map-map line_of (λ one. connected_line packed one (place_of places one)) readers))
