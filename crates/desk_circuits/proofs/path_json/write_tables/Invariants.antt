use Rattle.desk_circuits.proofs.Prelude.{◌≡◌, ◌++◌, take, flat_map, json_tokens, table_json}
use Rattle.desk_circuits.proofs.path_json.write_tables.Given as goal

-- the tables before this one are written
abbrev pub invariant-loop-number : goal.invariant-loop-number
invariant-loop-number l = l.pen ≡ l.initial.pen ++ flat_map (λ number. json_tokens (table_json l.circuit number)) (take l.number-index l.tables)
