use Rattle.desk_netlists.proofs.Prelude.{◌≡◌, ◌++◌, take, flat_map, json_tokens, stop_json}
use Rattle.desk_netlists.proofs.routed_json.write_stops.Given as goal

-- the ones before this one are written
abbrev pub invariant-loop-stop : goal.invariant-loop-stop
invariant-loop-stop l = l.pen ≡ l.initial.pen ++ flat_map (λ one. json_tokens (stop_json l.circuit one)) (take l.stop-index l.stops)
