use Rattle.vpr_files.proofs.Prelude.{◌≡◌, ◌∙◌, [], Some, map, slice_get, slice_index_or, ap, sym, flat_map, block_nets, PackedCircuit, Strip, places_by_block, node_line, text_of, writes_same}
use Rattle.vpr_files.proofs.FileTexts.{global_connections, local_connections, net_value}
use Rattle.vpr_files.proofs.route_file.write_connections.Goals as goal

pub returns-then-net : goal.returns-then-net
returns-then-net g c =
    let placing = c.args.placing.now in
    let number = c.args.number in
    let net = net_value c.net-net.result.net c.net-net.result.driver c.net-net.result.readers.now c.net-net.result.global in
    let paths = slice_index_or c.args.routes.now number [] in
    let at : slice_get (block_nets placing.packed) number ≡ Some net = ap (λ (p : PackedCircuit). slice_get (block_nets p) number) (sym c.packed-packed.ensures) ∙ c.net-net.ensures in
    writes_same g.W.Sink.contents g.W.Sink.has_failed _ _ _ _ c.write_connected.result
    (ap text_of (global_connections placing.strip placing.packed (places_by_block placing) paths number net at c.if-net.true))
    c.write_connected.ensures

pub returns-else-net : goal.returns-else-net
returns-else-net g c =
    let placing = c.args.placing.now in
    let number = c.args.number in
    let net = net_value c.net-net.result.net c.net-net.result.driver c.net-net.result.readers.now c.net-net.result.global in
    let paths = slice_index_or c.args.routes.now number [] in
    let at : slice_get (block_nets placing.packed) number ≡ Some net = ap (λ (p : PackedCircuit). slice_get (block_nets p) number) (sym c.packed-packed.ensures) ∙ c.net-net.ensures in
    writes_same g.W.Sink.contents g.W.Sink.has_failed _ _ _ _ c.write_paths.result
    (ap (λ (s : Strip). text_of (flat_map (map (node_line s)) paths)) c.strip.ensures.value
    ∙ ap text_of (local_connections placing.strip placing.packed (places_by_block placing) paths number net at c.if-net.false))
    c.write_paths.ensures
