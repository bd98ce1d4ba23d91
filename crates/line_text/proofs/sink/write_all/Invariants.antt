use Rattle.line_text.proofs.Prelude.{◌≡◌, ◌≤◌, ℕ, drop, length, take, Appends}
use Rattle.line_text.proofs.sink.write_all.Given as goal

-- the first n bytes were taken, and the others are left
abbrev pub invariant-loop-rest : goal.invariant-loop-rest
invariant-loop-rest g l = (n : ℕ) × (n ≤ length l.bytes) × (l.rest ≡ drop n l.bytes) × Appends (g.K.Sink.contents l.initial.sink) (g.K.Sink.contents l.sink) (take n l.bytes) × (g.K.Sink.has_failed l.sink ≡ g.K.Sink.has_failed l.initial.sink)

abbrev pub decreases-loop-rest : goal.decreases-loop-rest
decreases-loop-rest g l = length l.rest
