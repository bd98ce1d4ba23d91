use Rattle.desk_replies.proofs.Prelude.{ℕ, List, [], ◌∷◌, ◌++◌, codes, Json, members_more, object_written, ok_then, one_member, circuit_members, overuse_json, strip_members, use_members}
use Rattle.desk_replies.proofs.report_json.write_tenancy.Goals as goal

pub returns : goal.returns
returns c =
    let facts = c.args.facts.now in
    let strip = strip_members facts.uses.tenancy in
    let uses = use_members facts.uses in
    let circuit = circuit_members facts.circuit in
    let overuse : Json = overuse_json facts.crowding in
    let last : List (List ℕ × Json) = (codes "overuse", overuse) ∷ [] in
    ok_then c.close_object.result
    (object_written (strip ++ (uses ++ (circuit ++ last))) c.args.pen.now c.open_object.new.self c.write_overuse_json.new.pen c.close_object.new.self c.in_ok-open_object.ensures
    (members_more strip (uses ++ (circuit ++ last)) c.open_object.new.self c.write_strip_members.new.pen c.write_overuse_json.new.pen c.in_ok-write_strip_members.ensures
    (members_more uses (circuit ++ last) c.write_strip_members.new.pen c.write_use_members.new.pen c.write_overuse_json.new.pen c.in_ok-write_use_members.ensures
    (members_more circuit last c.write_use_members.new.pen c.write_circuit_members.new.pen c.write_overuse_json.new.pen c.in_ok-write_circuit_members.ensures
    (one_member (codes "overuse") overuse c.write_circuit_members.new.pen c.key.new.self c.write_overuse_json.new.pen c.in_ok-key.ensures c.in_ok-write_overuse_json.ensures)))))
    c.close_object.ensures
