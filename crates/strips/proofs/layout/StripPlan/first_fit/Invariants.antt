use Rattle.strips.proofs.Prelude.{ℕ, ◌<◌, FitsAt}
use Rattle.strips.proofs.layout.StripPlan.first_fit.Given as goal

-- it fits at no offset tried so far
abbrev pub invariant-loop-offset : goal.invariant-loop-offset
invariant-loop-offset l = (lower : ℕ) → lower < l.offset → FitsAt l.self l.width lower → ⊥
