use Rattle.one_user.proofs.Prelude.{ap, flat_map, all_same, part_first, part_same, part_then, writes_part, writes_then, net_word}
use Rattle.one_user.proofs.crowding_text.write_crowded.Goals as goal

pub returns-in_err-write_node : goal.returns-in_err-write_node
returns-in_err-write_node g c = writes_part _ c.from_residual.ensures.0 (part_first _ c.in_err-write_node.ensures)

pub returns-in_err-write_load : goal.returns-in_err-write_load
returns-in_err-write_load g c =
    writes_part _ c.from_residual-in_err-write_load.ensures.0
    (part_then c.in_ok-write_node.ensures (part_first _ c.in_err-write_load.ensures))

pub returns-in_err-write_nets : goal.returns-in_err-write_nets
returns-in_err-write_nets g c =
    let names = part_same c.in_err-write_nets.ensures (ap (flat_map (net_word c.args.crowding.now.packed)) c.deref.ensures.value) in
    writes_part _ c.from_residual-in_err-write_nets.ensures.0
    (part_then c.in_ok-write_node.ensures (part_then c.in_ok-write_load.ensures (part_first _ names)))

pub returns : goal.returns
returns g c =
    let names = all_same c.in_ok-write_nets.ensures (ap (flat_map (net_word c.args.crowding.now.packed)) c.deref.ensures.value) in
    writes_then c.in_ok-write_node.ensures _ _ c.end_line.result
    (writes_then c.in_ok-write_load.ensures _ _ c.end_line.result (writes_then names _ _ c.end_line.result c.end_line.ensures))
