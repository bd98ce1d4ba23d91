use Rattle.script_replies.proofs.Prelude.{take, flat_map, TakesAll, refused_text}
use Rattle.script_replies.proofs.report.write_refused.Given as goal

-- the lines before this one are written
abbrev pub invariant-loop-line : goal.invariant-loop-line
invariant-loop-line g l = TakesAll g.K.Sink.contents g.K.Sink.has_failed l.initial.sink l.sink (flat_map refused_text (take l.line-index l.told))
