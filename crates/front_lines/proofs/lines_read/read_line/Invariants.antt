use Rattle.front_lines.proofs.Prelude.{ahead_of, line_of}
use Rattle.front_lines.proofs.ReadLemmas.{ReadingOn}
use Rattle.front_lines.proofs.lines_read.read_line.Given as goal

-- the line goes on
abbrev pub invariant-loop : goal.invariant-loop
invariant-loop g l = ReadingOn (g.D.Dialogue.view l.fn.dialogue) (ahead_of l.fn.feed) (line_of l.fn.feed) (g.D.Dialogue.view l.dialogue) (ahead_of l.feed) (line_of l.feed)
