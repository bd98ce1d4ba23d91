use Rattle.vpr_files.proofs.Prelude.{places_by_block, connected_lines, text_of, part_first, writes_part, writes_then}
use Rattle.vpr_files.proofs.route_file.write_connected.Goals as goal

pub returns-in_err-write_block : goal.returns-in_err-write_block
returns-in_err-write_block g c =
    let placing = c.args.placing.now in
    let places = places_by_block placing in
    writes_part c.from_residual.result c.from_residual.ensures.0
    (part_first (text_of (connected_lines placing.packed places c.args.readers.now))
    c.in_err-write_block.ensures)

pub returns : goal.returns
returns g c =
    let placing = c.args.placing.now in
    let places = places_by_block placing in
    writes_then c.in_ok-write_block.ensures
    c.write_readers.new.sink (text_of (connected_lines placing.packed places c.args.readers.now)) c.write_readers.result c.write_readers.ensures
