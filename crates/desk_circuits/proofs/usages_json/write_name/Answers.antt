use Rattle.desk_circuits.proofs.Prelude.{◌++◌, members_more, object_written, ok_then, circuit_members, usage_members}
use Rattle.desk_circuits.proofs.usages_json.write_name.Goals as goal

pub returns : goal.returns
returns c =
    let facts = c.args.facts.now in
    let usage = usage_members facts.name.now facts.usage in
    let circuit = circuit_members facts.circuit in
    ok_then c.close_object.result
    (object_written (usage ++ circuit) c.args.pen.now c.open_object.new.self c.write_circuit_members.new.pen c.close_object.new.self c.in_ok-open_object.ensures
    (members_more usage circuit c.open_object.new.self c.write_usage_members.new.pen c.write_circuit_members.new.pen c.in_ok-write_usage_members.ensures c.in_ok-write_circuit_members.ensures))
    c.close_object.ensures
