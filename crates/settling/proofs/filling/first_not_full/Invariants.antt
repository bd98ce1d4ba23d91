use Rattle.settling.proofs.Prelude.{take, All, IsFullIfTold}
use Rattle.settling.proofs.filling.first_not_full.Given as goal

-- the transcripts so far
abbrev pub invariant-loop-i : goal.invariant-loop-i
invariant-loop-i g l = All (IsFullIfTold l.core.service) (take l.i l.transcripts)
