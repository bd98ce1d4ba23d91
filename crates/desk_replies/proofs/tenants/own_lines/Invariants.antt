use Rattle.desk_replies.proofs.Prelude.{◌≡◌, take, lines_at}
use Rattle.desk_replies.proofs.tenants.own_lines.Given as goal

-- the lines at the places before this one
abbrev pub invariant-loop-place : goal.invariant-loop-place
invariant-loop-place l = l.own.items ≡ lines_at l.told (take l.place-index l.places)
