use Rattle.desk_replies.proofs.Prelude.{◌≡◌, ◌++◌, take, flat_map, json_tokens, tenancy_json}
use Rattle.desk_replies.proofs.report_json.write_tenancy_list.Given as goal

-- the ones before this one are written
abbrev pub invariant-loop-one : goal.invariant-loop-one
invariant-loop-one l = l.pen ≡ l.initial.pen ++ flat_map (λ one. json_tokens (tenancy_json one)) (take l.one-index l.facts)
