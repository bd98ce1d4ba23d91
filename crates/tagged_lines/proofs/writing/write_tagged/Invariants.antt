use Rattle.tagged_lines.proofs.Prelude.{length}
use Rattle.tagged_lines.proofs.WritingSteps.{Written}
use Rattle.tagged_lines.proofs.writing.write_tagged.Given as goal

-- the lines before those that are left are written
abbrev pub invariant-loop-rest : goal.invariant-loop-rest
invariant-loop-rest g l = Written g.W.Sink.contents g.W.Sink.has_failed l.initial.sink l.sink l.tag l.text l.rest

abbrev pub decreases-loop-rest : goal.decreases-loop-rest
decreases-loop-rest g l = length l.rest
