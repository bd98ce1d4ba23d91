use Rattle.front_lines.proofs.Prelude.{line_of, to_come}
use Rattle.front_lines.proofs.ReadLemmas.{Reading}
use Rattle.front_lines.proofs.lines_read.await_line.Given as goal

-- the line goes on
abbrev pub invariant-loop : goal.invariant-loop
invariant-loop g l = Reading (to_come l.fn.feed (g.D.Dialogue.view l.fn.dialogue)) (to_come l.feed (g.D.Dialogue.view l.dialogue)) (line_of l.fn.feed) (line_of l.feed)
