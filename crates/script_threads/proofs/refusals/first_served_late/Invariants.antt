use Rattle.script_threads.proofs.Prelude.{take, All, NoneLate}
use Rattle.script_threads.proofs.refusals.first_served_late.Given as goal

-- the transcripts so far
abbrev pub invariant-loop-i : goal.invariant-loop-i
invariant-loop-i g l = All NoneLate (take l.i l.transcripts)
