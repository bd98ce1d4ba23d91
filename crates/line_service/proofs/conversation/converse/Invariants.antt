use Rattle.line_service.proofs.Prelude.{ahead_of, line_of}
use Rattle.line_service.proofs.TalkLemmas.{Progress}
use Rattle.line_service.proofs.conversation.converse.Given as goal

-- the lines so far are answered
abbrev pub invariant-loop : goal.invariant-loop
invariant-loop g l = record {
  ready : g.A.Answers.is_ready l.service;
  progress : Progress g.A.Answers.answers l.fn.service l.fn.number (g.D.Dialogue.view l.fn.dialogue) l.number (g.D.Dialogue.view l.dialogue) l.service (ahead_of l.feed) (line_of l.feed);
}
