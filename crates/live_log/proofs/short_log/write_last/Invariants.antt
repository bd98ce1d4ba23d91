use Rattle.live_log.proofs.Prelude.{take, flat_map, TakesAll}
use Rattle.live_log.proofs.WritingSteps.{comment}
use Rattle.live_log.proofs.short_log.write_last.Given as goal

-- the comments before this one are written
abbrev pub invariant-loop-tag : goal.invariant-loop-tag
invariant-loop-tag g l = TakesAll g.W.Sink.contents g.W.Sink.has_failed l.initial.sink l.sink (flat_map comment (take l.tag-index l.tags))
