use Rattle.desk_circuits.proofs.Prelude.{◌≡◌, ◌++◌, take, flat_map, json_tokens, name_json}
use Rattle.desk_circuits.proofs.usages_json.write_names.Given as goal

-- the names before this one are written
abbrev pub invariant-loop-facts : goal.invariant-loop-facts
invariant-loop-facts l = l.pen ≡ l.initial.pen ++ flat_map (λ facts. json_tokens (name_json facts)) (take l.facts-index l.names)
