use Rattle.settling.proofs.Prelude.{◌≡◌, take, All, receipts_of, IsBorneOut, claims_in}
use Rattle.settling.proofs.Claims.{next_place}
use Rattle.settling.proofs.comparing.mismatch_in.Given as goal

abbrev pub invariant-loop-j : goal.invariant-loop-j
invariant-loop-j g l = All (IsBorneOut l.core) (claims_in l.transcript.id l.repeated 0 (receipts_of (take l.j l.transcript.items))) × (next_place 0 (receipts_of (take l.j l.transcript.items)) ≡ l.least)
