use Rattle.desk_circuits.proofs.Prelude.{ℕ, List, [], ◌∷◌, ◌++◌, codes, map, Json, list_of, members_more, object_written, ok_then, one_member, line_members, name_json}
use Rattle.desk_circuits.proofs.usages_json.write_usages.Goals as goal

pub returns : goal.returns
returns c =
    let counts = c.args.counts in
    let front = line_members counts.served counts.refused counts.files in
    let names : Json = list_of (map name_json c.args.names.now) in
    let last : List (List ℕ × Json) = (codes "names", names) ∷ [] in
    ok_then c.close_object.result
    (object_written (front ++ last) c.args.pen.now c.open_object.new.self c.write_list.new.pen c.close_object.new.self c.in_ok-open_object.ensures
    (members_more front last c.open_object.new.self c.write_line_members.new.pen c.write_list.new.pen c.in_ok-write_line_members.ensures
    (one_member (codes "names") names c.write_line_members.new.pen c.key.new.self c.write_list.new.pen c.in_ok-key.ensures c.in_ok-write_list.ensures)))
    c.close_object.ensures
