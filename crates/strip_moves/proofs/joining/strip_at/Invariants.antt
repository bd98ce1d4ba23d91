use Rattle.strip_moves.proofs.Prelude.{◌≢◌, ◌<◌, ℕ, get_or, PlacedStrip}
use Rattle.strip_moves.proofs.joining.strip_at.Given as goal

-- no strip so far is at the offset
abbrev pub invariant-loop-place : goal.invariant-loop-place
invariant-loop-place l = (i : ℕ) (d : PlacedStrip) → i < l.place → (get_or l.strips i d).offset ≢ l.offset
