use Rattle.live_run.proofs.Prelude.{ahead_of, line_of}
use Rattle.live_run.proofs.SumLemmas.{SumsSome}
use Rattle.live_run.proofs.sums.check_lines.Given as goal

-- the lines so far say no other sum
abbrev pub invariant-loop : goal.invariant-loop
invariant-loop g l = SumsSome (g.S.Dialogue.view l.fn.source).remaining (g.S.Dialogue.view l.source).remaining (ahead_of l.feed) (line_of l.feed) l.sum
