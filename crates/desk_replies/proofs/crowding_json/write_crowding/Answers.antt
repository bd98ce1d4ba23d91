use Rattle.desk_replies.proofs.Prelude.{ℕ, List, [], ◌∷◌, ◌++◌, codes, map, ◌∙◌, ap, Json, json_tokens, list_of, number_of, members_more, object_written, ok_then, one_member, CrowdedNode, node_json}
use Rattle.desk_replies.proofs.crowding_json.write_crowding.Goals as goal

pub returns : goal.returns
returns c =
    let crowding = c.args.crowding.now in
    let front : List (List ℕ × Json) = (codes "nodes_left_overused", number_of crowding.overused) ∷ [] in
    let nodes : Json = list_of (map (node_json crowding.packed) crowding.nodes.items) in
    let last : List (List ℕ × Json) = (codes "nodes", nodes) ∷ [] in
    ok_then c.close_object.result
    (object_written (front ++ last) c.args.pen.now c.open_object.new.self c.write_list.new.pen c.close_object.new.self c.in_ok-open_object.ensures
    (members_more front last c.open_object.new.self c.members.new.self c.write_list.new.pen c.in_ok-members.ensures
    (one_member (codes "nodes") nodes c.members.new.self c.key.new.self c.write_list.new.pen c.in_ok-key.ensures
    (c.in_ok-write_list.ensures ∙ ap (λ (all : List CrowdedNode). c.key.new.self ++ json_tokens (list_of (map (node_json crowding.packed) all))) c.deref.ensures.value))))
    c.close_object.ensures
