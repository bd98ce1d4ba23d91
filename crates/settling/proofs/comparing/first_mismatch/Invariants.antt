use Rattle.settling.proofs.Prelude.{take, All, IsBorneOut, claims_of}
use Rattle.settling.proofs.comparing.first_mismatch.Given as goal

abbrev pub invariant-loop-i : goal.invariant-loop-i
invariant-loop-i g l = All (IsBorneOut l.core) (claims_of (take l.i l.transcripts))
