use Rattle.vpr_files.proofs.Prelude.{sym, flat_map-append, places_by_block, line_of, text_of, place_text_of, place_headings, placed_lines, all_same, part_first, part_same, writes_part, writes_same, writes_then}
use Rattle.vpr_files.proofs.FileTexts.{headings_found}
use Rattle.vpr_files.proofs.place_file.place_text.Goals as goal

pub returns-in_err-write_headings : goal.returns-in_err-write_headings
unfolding place_text_of
returns-in_err-write_headings g c =
    let placing = c.args.placing.now in
    let lines = placed_lines placing.packed (places_by_block placing) in
    writes_part c.from_residual.result c.from_residual.ensures.0
    (part_same (part_first (text_of lines) (part_same c.in_err-write_headings.ensures (headings_found c.strip.ensures.value c.packed.ensures)))
    (sym (flat_map-append line_of (place_headings placing.strip placing.packed) lines)))

pub returns : goal.returns
unfolding place_text_of
returns g c =
    let placing = c.args.placing.now in
    let lines = placed_lines placing.packed (places_by_block placing) in
    writes_same g.W.Sink.contents g.W.Sink.has_failed _ _ _ _ c.write_places.result
    (sym (flat_map-append line_of (place_headings placing.strip placing.packed) lines))
    (writes_then (all_same c.in_ok-write_headings.ensures (headings_found c.strip.ensures.value c.packed.ensures)) _ (text_of lines) c.write_places.result c.write_places.ensures)
