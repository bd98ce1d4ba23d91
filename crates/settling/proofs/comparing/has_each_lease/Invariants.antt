use Rattle.settling.proofs.Prelude.{◌≡◌, ◌≤◌, ℕ, true, is_leased, has_id}
use Rattle.settling.proofs.comparing.has_each_lease.Given as goal

abbrev pub invariant-loop-index : goal.invariant-loop-index
invariant-loop-index g l = (id : ℕ) → id ≤ l.index → is_leased l.core.marks id ≡ true → has_id l.transcripts id ≡ true
