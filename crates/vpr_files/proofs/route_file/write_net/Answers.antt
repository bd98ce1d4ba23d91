use Rattle.vpr_files.proofs.Prelude.{[], ◌∷◌, ◌++◌, slice_index_or, net_name, places_by_block, connections, net_heading, numbered_net, text_of, all_same, part_first, part_same, part_then, writes_part, writes_same, writes_then}
use Rattle.vpr_files.proofs.FileTexts.{heading_found, net_text, net_value}
use Rattle.vpr_files.proofs.route_file.write_net.Goals as goal

pub returns-in_err-write_net_heading : goal.returns-in_err-write_net_heading
returns-in_err-write_net_heading g c =
    let placing = c.args.placing.now in
    let net = numbered_net placing.packed c.args.number in
    let found = net_value c.net-net.result.net c.net-net.result.driver c.net-net.result.readers.now c.net-net.result.global in
    let lines = connections placing.strip placing.packed (places_by_block placing) net (slice_index_or c.args.routes.now c.args.number []) in
    writes_part c.from_residual.result c.from_residual.ensures.0
    (part_same (part_first (text_of lines ++ 10 ∷ []) (part_same c.in_err-write_net_heading.ensures (heading_found placing.packed c.packed-packed.result.now c.circuit.result.now c.args.number found c.net_name-name.result.now c.packed-packed.ensures c.net-net.ensures c.circuit.ensures.value c.net_name-name.ensures)))
    (net_text (net_heading c.args.number (net_name placing.packed.circuit net.net) net.global) lines))

pub returns-in_err-write_connections : goal.returns-in_err-write_connections
returns-in_err-write_connections g c =
    let placing = c.args.placing.now in
    let net = numbered_net placing.packed c.args.number in
    let found = net_value c.net-net.result.net c.net-net.result.driver c.net-net.result.readers.now c.net-net.result.global in
    let lines = connections placing.strip placing.packed (places_by_block placing) net (slice_index_or c.args.routes.now c.args.number []) in
    writes_part c.from_residual-in_err-write_connections.result c.from_residual-in_err-write_connections.ensures.0
    (part_same (part_then (all_same c.in_ok-write_net_heading.ensures (heading_found placing.packed c.packed-packed.result.now c.circuit.result.now c.args.number found c.net_name-name.result.now c.packed-packed.ensures c.net-net.ensures c.circuit.ensures.value c.net_name-name.ensures)) (part_first (10 ∷ []) c.in_err-write_connections.ensures))
    (net_text (net_heading c.args.number (net_name placing.packed.circuit net.net) net.global) lines))

pub returns : goal.returns
returns g c =
    let placing = c.args.placing.now in
    let net = numbered_net placing.packed c.args.number in
    let found = net_value c.net-net.result.net c.net-net.result.driver c.net-net.result.readers.now c.net-net.result.global in
    let lines = connections placing.strip placing.packed (places_by_block placing) net (slice_index_or c.args.routes.now c.args.number []) in
    writes_same g.W.Sink.contents g.W.Sink.has_failed _ _ _ _ c.end_line.result
    (net_text (net_heading c.args.number (net_name placing.packed.circuit net.net) net.global) lines)
    (writes_then (all_same c.in_ok-write_net_heading.ensures (heading_found placing.packed c.packed-packed.result.now c.circuit.result.now c.args.number found c.net_name-name.result.now c.packed-packed.ensures c.net-net.ensures c.circuit.ensures.value c.net_name-name.ensures)) _ _ c.end_line.result
    (writes_then c.in_ok-write_connections.ensures c.end_line.new.sink (10 ∷ []) c.end_line.result c.end_line.ensures))
