use Rattle.desk_replies.proofs.Prelude.{◌≡◌, take, last_states}
use Rattle.desk_replies.proofs.states.last_states.Given as goal

-- the last states of those so far
abbrev pub invariant-loop-one : goal.invariant-loop-one
invariant-loop-one l = l.last.entries ≡ last_states (take l.one-index l.states)
