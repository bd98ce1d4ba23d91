use Rattle.desk_replies.proofs.Prelude.{◌≡◌, drop, map, answered_line, named_act, wish_from, wish_now}
use Rattle.desk_replies.proofs.layout_wish.add_acts.Given as goal

-- the wish so far, with what is left, comes to that of all
abbrev pub invariant-loop-place : goal.invariant-loop-place
invariant-loop-place l =
    wish_from l.name (wish_now l.wish) (drop l.place (map named_act l.acts)) (drop l.place (map answered_line l.lines))
    ≡ wish_from l.name (wish_now l.fn.wish) (map named_act l.acts) (map answered_line l.lines)
