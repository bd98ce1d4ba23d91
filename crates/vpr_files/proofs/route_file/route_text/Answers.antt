use Rattle.vpr_files.proofs.Prelude.{ap, sym, flat_map-append, Strip, places_by_block, line_of, text_of, route_text_of, route_headings, routed_lines, all_same, part_first, part_same, writes_part, writes_same, writes_then}
use Rattle.vpr_files.proofs.route_file.route_text.Goals as goal

pub returns-in_err-write_headings : goal.returns-in_err-write_headings
unfolding route_text_of
returns-in_err-write_headings g c =
    let placing = c.args.placing.now in
    let lines = routed_lines placing.strip placing.packed (places_by_block placing) c.args.routes.now in
    writes_part c.from_residual.result c.from_residual.ensures.0
    (part_same (part_first (text_of lines) (part_same c.in_err-write_headings.ensures (ap (λ (s : Strip). text_of (route_headings s)) c.strip.ensures.value)))
    (sym (flat_map-append line_of (route_headings placing.strip) lines)))

pub returns : goal.returns
unfolding route_text_of
returns g c =
    let placing = c.args.placing.now in
    let lines = routed_lines placing.strip placing.packed (places_by_block placing) c.args.routes.now in
    writes_same g.W.Sink.contents g.W.Sink.has_failed _ _ _ _ c.write_nets.result
    (sym (flat_map-append line_of (route_headings placing.strip) lines))
    (writes_then (all_same c.in_ok-write_headings.ensures (ap (λ (s : Strip). text_of (route_headings s)) c.strip.ensures.value)) _ (text_of lines) c.write_nets.result c.write_nets.ensures)
