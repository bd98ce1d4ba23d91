use Rattle.live_log.proofs.Prelude.{length}
use Rattle.live_log.proofs.WritingSteps.{Written}
use Rattle.live_log.proofs.short_log.ShortLog.write_kept.Given as goal

-- the lines before those that are left are written, if they are kept
abbrev pub invariant-loop-rest : goal.invariant-loop-rest
invariant-loop-rest g l = Written g.W.Sink.contents g.W.Sink.has_failed l.initial.sink l.sink l.self.kept.items l.self.log.now l.marks l.rest

abbrev pub decreases-loop-rest : goal.decreases-loop-rest
decreases-loop-rest g l = length l.rest
