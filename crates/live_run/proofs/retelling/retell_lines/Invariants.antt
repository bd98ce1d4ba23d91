use Rattle.live_run.proofs.Prelude.{ahead_of, line_of, is_ready, state_in}
use Rattle.live_run.proofs.RetellLemmas.{RetellsSome}
use Rattle.live_run.proofs.retelling.retell_lines.Given as goal

-- the lines so far were answered
abbrev pub invariant-loop : goal.invariant-loop
invariant-loop g l = record {
  ready : is_ready l.lines;
  some : RetellsSome (state_in l.fn.lines) l.fn.number (g.S.Dialogue.view l.fn.source).remaining (g.S.Dialogue.view l.source).remaining (ahead_of l.feed) (line_of l.feed) l.fn.told (g.D.Dialogue.view l.fn.dialogue) l.number (state_in l.lines) (g.D.Dialogue.view l.dialogue);
}
