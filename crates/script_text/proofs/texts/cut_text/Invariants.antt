use Rattle.script_text.proofs.Prelude.{length}
use Rattle.script_text.proofs.Walked.{Walked}
use Rattle.script_text.proofs.texts.cut_text.Given as goal

abbrev pub invariant-loop-rest : goal.invariant-loop-rest
invariant-loop-rest l = Walked l.fn.number l.bytes l.rest l.number

abbrev pub decreases-loop-rest : goal.decreases-loop-rest
decreases-loop-rest l = length l.rest
