use Rattle.script_replies.proofs.Prelude.{take, flat_map, TakesAll, told_text}
use Rattle.script_replies.proofs.report.write_told.Given as goal

-- the lines before this one are written
abbrev pub invariant-loop-line : goal.invariant-loop-line
invariant-loop-line g l = TakesAll g.K.Sink.contents g.K.Sink.has_failed l.initial.sink l.sink (flat_map told_text (take l.line-index l.told))
