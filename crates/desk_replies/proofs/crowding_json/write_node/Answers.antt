use Rattle.desk_replies.proofs.Prelude.{ℕ, List, [], ◌∷◌, ◌++◌, codes, map, ◌∙◌, ap, Json, json_tokens, list_of, members_more, object_written, ok_then, one_member, net_json, node_members}
use Rattle.desk_replies.proofs.crowding_json.write_node.Goals as goal

pub returns : goal.returns
returns c =
    let crowded = c.args.crowded.now in
    let front : List (List ℕ × Json) = node_members crowded in
    let nets : Json = list_of (map (net_json c.args.crowding.now.packed) crowded.nets.items) in
    let last : List (List ℕ × Json) = (codes "nets", nets) ∷ [] in
    ok_then c.close_object.result
    (object_written (front ++ last) c.args.pen.now c.open_object.new.self c.write_net_list.new.pen c.close_object.new.self c.in_ok-open_object.ensures
    (members_more front last c.open_object.new.self c.write_node_members.new.pen c.write_net_list.new.pen c.in_ok-write_node_members.ensures
    (one_member (codes "nets") nets c.write_node_members.new.pen c.key.new.self c.write_net_list.new.pen c.in_ok-key.ensures
    (c.in_ok-write_net_list.ensures ∙ ap (λ (all : List ℕ). c.key.new.self ++ json_tokens (list_of (map (net_json c.args.crowding.now.packed) all))) c.deref.ensures.value))))
    c.close_object.ensures
