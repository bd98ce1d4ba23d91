use Rattle.settling.proofs.Prelude.{◌≡◌, ◌+◌, length, receipts_in}
use Rattle.settling.proofs.counting.merge_leases.Given as goal

abbrev pub invariant-loop-transcript : goal.invariant-loop-transcript
invariant-loop-transcript g l = (l.all.parts + length l.left.items ≡ length l.fn.transcripts.items) × (l.all.amount + receipts_in l.left.items ≡ receipts_in l.fn.transcripts.items)

abbrev pub decreases-loop-transcript : goal.decreases-loop-transcript
decreases-loop-transcript g l = goal.left-loop-transcript g l
