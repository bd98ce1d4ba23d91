use Rattle.printed_replies.proofs.Prelude.{◌≡◌, take, map, asked_line, names_of}
use Rattle.printed_replies.proofs.sections.names_of.Given as goal

-- the names so far
abbrev pub invariant-loop-one : goal.invariant-loop-one
invariant-loop-one l = l.names ≡ names_of (map asked_line (take l.one-index l.asked))
