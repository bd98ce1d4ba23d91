use Rattle.session_threads.proofs.Prelude.{prepend_known}
use Rattle.session_threads.proofs.LineLemmas.{Reading}
use Rattle.session_threads.proofs.lines.LineReader.read_line.Given as goal

abbrev pub invariant-loop : goal.invariant-loop
invariant-loop g l = Reading (prepend_known l.fn.self.input (g.S.Source.remaining l.fn.source)) (prepend_known l.self.input (g.S.Source.remaining l.source)) l.self.line
