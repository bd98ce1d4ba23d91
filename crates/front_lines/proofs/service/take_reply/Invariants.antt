use Rattle.front_lines.proofs.Prelude.{line_of, to_come}
use Rattle.front_lines.proofs.ReplyLemmas.{Following}
use Rattle.front_lines.proofs.service.take_reply.Given as goal

-- the reply goes on
abbrev pub invariant-loop : goal.invariant-loop
invariant-loop g l = Following l.fn.speaker (to_come l.fn.feed (g.F.Dialogue.view l.fn.replies)) (to_come l.feed (g.F.Dialogue.view l.replies)) (line_of l.feed) l.reply.items
