use Rattle.desk_replies.proofs.Prelude.{◌≡◌, ◌++◌, take, flat_map, json_tokens, net_json}
use Rattle.desk_replies.proofs.crowding_json.write_net_list.Given as goal

-- the ones before this one are written
abbrev pub invariant-loop-net : goal.invariant-loop-net
invariant-loop-net l = l.pen ≡ l.initial.pen ++ flat_map (λ one. json_tokens (net_json l.crowding.packed one)) (take l.net-index l.nets)
