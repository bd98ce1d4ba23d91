use Rattle.desk_replies.proofs.Prelude.{◌≡◌, ◌++◌, map, length, physical_lines, listed_state, state_after}
use Rattle.desk_replies.proofs.states.add_listed.Given as goal

-- the lines so far, with those that are left, are all
abbrev pub invariant-loop-rest : goal.invariant-loop-rest
invariant-loop-rest l = map state_after l.states.items ++ map (listed_state l.number) (physical_lines l.rest) ≡ map state_after l.fn.states.items ++ map (listed_state l.number) (physical_lines l.reply)

abbrev pub decreases-loop-rest : goal.decreases-loop-rest
decreases-loop-rest l = length l.rest
