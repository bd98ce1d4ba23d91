use Rattle.desk_netlists.proofs.Prelude.{list_written, ok_then, stop_json}
use Rattle.desk_netlists.proofs.routed_json.write_stop_list.Goals as goal

pub returns : goal.returns
returns c =
    ok_then c.close_list.result
    (list_written (stop_json c.args.circuit.now) c.args.stops.now c.args.pen.now c.open_list.new.self c.write_stops.new.pen c.close_list.new.self c.in_ok-open_list.ensures c.in_ok-write_stops.ensures)
    c.close_list.ensures
