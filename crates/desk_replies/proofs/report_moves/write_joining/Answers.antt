use Rattle.desk_replies.proofs.Prelude.{ap, flat_map, all_same, part_first, part_same, writes_part, writes_then, move_line}
use Rattle.desk_replies.proofs.report_moves.write_joining.Goals as goal

pub returns-in_err-write_moves : goal.returns-in_err-write_moves
returns-in_err-write_moves g c =
    writes_part _ c.from_residual.ensures.0
    (part_first _ (part_same c.in_err-write_moves.ensures (ap (flat_map (move_line c.args.tenancies.now)) c.deref.ensures.value)))

pub returns : goal.returns
returns g c =
    writes_then (all_same c.in_ok-write_moves.ensures (ap (flat_map (move_line c.args.tenancies.now)) c.deref.ensures.value)) _ _ c.write_widest.result c.write_widest.ensures
