use Rattle.operator.proofs.Prelude.{◌≡◌, ◌++◌, take, sink_text, newest_first, list_text}
use Rattle.operator.proofs.operator.Operator.list.Given as goal

-- the lines of the ids so far
abbrev pub invariant-loop-place : goal.invariant-loop-place
invariant-loop-place l = sink_text l.reply ≡ sink_text l.fn.reply ++ list_text l.core (newest_first (take l.place l.names))
