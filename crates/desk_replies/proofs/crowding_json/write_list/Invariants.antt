use Rattle.desk_replies.proofs.Prelude.{◌≡◌, ◌++◌, take, flat_map, json_tokens, node_json}
use Rattle.desk_replies.proofs.crowding_json.write_list.Given as goal

-- the ones before this one are written
abbrev pub invariant-loop-crowded : goal.invariant-loop-crowded
invariant-loop-crowded l = l.pen ≡ l.initial.pen ++ flat_map (λ one. json_tokens (node_json l.crowding.packed one)) (take l.crowded-index l.nodes)
