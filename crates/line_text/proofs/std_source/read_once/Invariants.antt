use Rattle.line_text.proofs.Prelude.{◌≡◌, length, Keeps}
use Rattle.line_text.proofs.std_source.read_once.Given as goal

abbrev pub invariant-loop : goal.invariant-loop
invariant-loop g l = (length l.buffer ≡ length l.initial.buffer) × Keeps (g.R.Read.remaining l.initial.reader) (g.R.Read.remaining l.reader)
