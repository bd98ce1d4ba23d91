use Rattle.json_text.proofs.Prelude.{◌≡◌, ◌++◌, take, flat_map, member_of, member_tokens}
use Rattle.json_text.proofs.pen.JsonPen.members.Given as goal

-- the members before this one are written
abbrev pub invariant-loop-one : goal.invariant-loop-one
invariant-loop-one l = l.self ≡ l.initial.self ++ flat_map (λ one. member_tokens (member_of one)) (take l.one-index l.members)
