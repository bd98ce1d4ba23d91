use Rattle.front_lines.proofs.Prelude.{◌≡◌, line_of, IsKept, to_come}
use Rattle.std.specs.Prelude.{[]}
use Rattle.front_lines.proofs.ServedLemmas.{Progress}
use Rattle.front_lines.proofs.serving.serve_client.Given as goal

-- the lines so far are answered
abbrev pub invariant-loop : goal.invariant-loop
invariant-loop g l = record {
  speaker : l.service.speaker ≡ l.fn.service.speaker;
  begins : IsKept (line_of l.feed) [];
  progress : Progress l.fn.service.speaker l.fn.text (g.D.Dialogue.view l.fn.client).remaining (to_come l.feed (g.D.Dialogue.view l.client)) (g.Q.Requests.contents l.fn.service.requests) (g.Q.Requests.contents l.service.requests) (g.F.Dialogue.view l.fn.service.replies).remaining (to_come l.service.feed (g.F.Dialogue.view l.service.replies)) (line_of l.service.feed) (g.D.Dialogue.view l.fn.client).output (g.D.Dialogue.view l.client).output l.text;
}
