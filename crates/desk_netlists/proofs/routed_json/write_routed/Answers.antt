use Rattle.desk_netlists.proofs.Prelude.{◌++◌, members_more, object_written, ok_then, circuit_members, last_members, part_members, size_members}
use Rattle.desk_netlists.proofs.routed_json.write_routed.Goals as goal

pub returns : goal.returns
returns c =
    let facts = c.args.facts in
    let size = size_members facts in
    let parts = part_members facts in
    let circuit = circuit_members facts.measured.now in
    let last = last_members c.args.circuit.now facts in
    ok_then c.close_object.result
    (object_written (size ++ (parts ++ (circuit ++ last))) c.args.pen.now c.open_object.new.self c.write_last_members.new.pen c.close_object.new.self c.in_ok-open_object.ensures
    (members_more size (parts ++ (circuit ++ last)) c.open_object.new.self c.write_size_members.new.pen c.write_last_members.new.pen c.in_ok-write_size_members.ensures
    (members_more parts (circuit ++ last) c.write_size_members.new.pen c.write_part_members.new.pen c.write_last_members.new.pen c.in_ok-write_part_members.ensures
    (members_more circuit last c.write_part_members.new.pen c.write_circuit_members.new.pen c.write_last_members.new.pen c.in_ok-write_circuit_members.ensures c.in_ok-write_last_members.ensures))))
    c.close_object.ensures
