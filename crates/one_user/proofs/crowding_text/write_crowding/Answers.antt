use Rattle.one_user.proofs.Prelude.{ap, flat_map, part_first, writes_part, writes_same, writes_then, crowded_line}
use Rattle.one_user.proofs.crowding_text.write_crowding.Goals as goal

pub returns-in_err-write_overused : goal.returns-in_err-write_overused
returns-in_err-write_overused g c = writes_part _ c.from_residual.ensures.0 (part_first _ c.in_err-write_overused.ensures)

pub returns : goal.returns
returns g c =
    writes_then c.in_ok-write_overused.ensures _ _ c.write_nodes.result
    (writes_same g.W.Sink.contents g.W.Sink.has_failed _ _ _ _ c.write_nodes.result (ap (flat_map (crowded_line c.args.crowding.now.packed c.args.crowding.now.rows)) c.deref.ensures.value) c.write_nodes.ensures)
