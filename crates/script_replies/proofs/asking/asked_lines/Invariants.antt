use Rattle.script_replies.proofs.Prelude.{◌≡◌, take, map, asked_line, named_act, asked_of}
use Rattle.script_replies.proofs.asking.asked_lines.Given as goal

-- the lines so far
abbrev pub invariant-loop-act : goal.invariant-loop-act
invariant-loop-act l = map asked_line l.asked.items ≡ map asked_of (map named_act (take l.act-index l.acts))
