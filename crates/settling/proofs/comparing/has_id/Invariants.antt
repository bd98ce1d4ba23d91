use Rattle.settling.proofs.Prelude.{◌≡◌, false, take, has_id}
use Rattle.settling.proofs.comparing.has_id.Given as goal

abbrev pub invariant-loop-i : goal.invariant-loop-i
invariant-loop-i g l = has_id (take l.i l.transcripts) l.id ≡ false
