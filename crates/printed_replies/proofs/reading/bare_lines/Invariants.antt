use Rattle.printed_replies.proofs.Prelude.{◌≡◌, take, map, answered_lines, asked_line, without_reply}
use Rattle.printed_replies.proofs.reading.bare_lines.Given as goal

-- the lines so far
abbrev pub invariant-loop-one : goal.invariant-loop-one
invariant-loop-one l = answered_lines l.lines.items ≡ map without_reply (map asked_line (take l.one-index l.asked))
