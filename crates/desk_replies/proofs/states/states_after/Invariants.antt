use Rattle.desk_replies.proofs.Prelude.{◌≡◌, ◌++◌, drop, map, answered_line, named_act, state_after, states_from}
use Rattle.desk_replies.proofs.states.states_after.Given as goal

-- the states so far, with those that are left, are all
abbrev pub invariant-loop-number : goal.invariant-loop-number
invariant-loop-number l =
    map state_after l.states.items ++ states_from l.number (drop l.number (map named_act l.acts)) (drop l.number (map answered_line l.lines))
    ≡ states_from 0 (map named_act l.acts) (map answered_line l.lines)
