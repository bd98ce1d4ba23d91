use Rattle.line_text.proofs.Prelude.{Keeps}
use Rattle.line_text.proofs.std_sink.write_once.Given as goal

abbrev pub invariant-loop : goal.invariant-loop
invariant-loop g l = Keeps (g.W.Write.contents l.initial.writer) (g.W.Write.contents l.writer)
