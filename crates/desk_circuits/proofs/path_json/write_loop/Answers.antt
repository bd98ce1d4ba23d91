use Rattle.desk_circuits.proofs.Prelude.{list_written, ok_then, table_json}
use Rattle.desk_circuits.proofs.path_json.write_loop.Goals as goal

pub returns : goal.returns
returns c =
    ok_then c.close_list.result
    (list_written (table_json c.args.circuit.now) c.args.tables.now c.args.pen.now c.open_list.new.self c.write_tables.new.pen c.close_list.new.self c.in_ok-open_list.ensures c.in_ok-write_tables.ensures)
    c.close_list.ensures
