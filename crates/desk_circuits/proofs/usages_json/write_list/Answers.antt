use Rattle.desk_circuits.proofs.Prelude.{list_written, ok_then, name_json}
use Rattle.desk_circuits.proofs.usages_json.write_list.Goals as goal

pub returns : goal.returns
returns c =
    ok_then c.close_list.result
    (list_written name_json c.args.names.now c.args.pen.now c.open_list.new.self c.write_names.new.pen c.close_list.new.self c.in_ok-open_list.ensures c.in_ok-write_names.ensures)
    c.close_list.ensures
