use Rattle.path_stops.proofs.Prelude.{part_first, part_then, writes_part, writes_then}
use Rattle.path_stops.proofs.text.write_stop.Goals as goal

pub returns-in_err-write_way : goal.returns-in_err-write_way
returns-in_err-write_way g c =
    writes_part _ c.from_residual.ensures.0 (part_first _ c.in_err-write_way.ensures)

pub returns-in_err-write_name : goal.returns-in_err-write_name
returns-in_err-write_name g c =
    writes_part _ c.from_residual-in_err-write_name.ensures.0
    (part_then c.in_ok-write_way.ensures (part_first _ c.in_err-write_name.ensures))

pub returns : goal.returns
returns g c =
    writes_then c.in_ok-write_way.ensures _ _ c.write_place.result
    (writes_then c.in_ok-write_name.ensures _ _ c.write_place.result c.write_place.ensures)
