use Rattle.live_lines.proofs.Prelude.{sink_text, AppendsFigures}
use Rattle.live_lines.proofs.FigureLemmas.{names_up_to}
use Rattle.live_lines.proofs.figures.push_figures.Given as goal

-- the lines of the ids so far
abbrev pub invariant-loop-place : goal.invariant-loop-place
invariant-loop-place l = AppendsFigures l.core l.number (names_up_to l.place l.names) (sink_text l.fn.reply) (sink_text l.reply)
