use Rattle.desk_netlists.proofs.Prelude.{ℕ, List, [], ◌∷◌, ◌++◌, codes, map, Json, list_of, members_more, ok_then, one_member, fullest_json, lacking_json, stop_json}
use Rattle.desk_netlists.proofs.routed_json.write_last_members.Goals as goal

pub returns : goal.returns
returns c =
    let facts = c.args.facts in
    let fullest : Json = fullest_json facts.figures.fullest in
    let lacking : Json = lacking_json facts.lacking in
    let path : Json = list_of (map (stop_json c.args.circuit.now) facts.stops.now) in
    let second : List (List ℕ × Json) = (codes "size_set_by", lacking) ∷ [] in
    let third : List (List ℕ × Json) = (codes "path", path) ∷ [] in
    ok_then c.write_stop_list.result
    (λ e. members_more ((codes "fullest_channel", fullest) ∷ []) (second ++ third) c.args.pen.now c.write_fullest.new.pen c.write_stop_list.new.pen
    (one_member (codes "fullest_channel") fullest c.args.pen.now c.key.new.self c.write_fullest.new.pen c.in_ok-key.ensures c.in_ok-write_fullest.ensures)
    (members_more second third c.write_fullest.new.pen c.write_lacking.new.pen c.write_stop_list.new.pen
    (one_member (codes "size_set_by") lacking c.write_fullest.new.pen c.key-2.new.self c.write_lacking.new.pen c.in_ok-key-2.ensures c.in_ok-write_lacking.ensures)
    (one_member (codes "path") path c.write_lacking.new.pen c.key-3.new.self c.write_stop_list.new.pen c.in_ok-key-3.ensures e)))
    c.write_stop_list.ensures
