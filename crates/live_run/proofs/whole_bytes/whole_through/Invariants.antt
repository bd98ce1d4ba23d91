use Rattle.live_run.proofs.Prelude.{◌≡◌, ℕ, List, length, Consumes, whole_bytes}
use Rattle.live_run.proofs.whole_bytes.whole_through.Given as goal

-- the bytes that were read, and how many of them are whole lines
abbrev pub invariant-loop-count : goal.invariant-loop-count
invariant-loop-count g l = (seen : List ℕ) × Consumes (g.S.Source.remaining l.initial.source) (g.S.Source.remaining l.source) seen × (l.length ≡ length seen) × (l.whole ≡ whole_bytes seen)

abbrev pub decreases-loop-count : goal.decreases-loop-count
decreases-loop-count g l = g.S.Source.reads_left l.source
