use Rattle.front_lines.proofs.Prelude.{ap, sym, ◌∙◌, line_of, item_in, to_come}
use Rattle.front_lines.proofs.TurnLemmas.{answers_nothing, answers_refusal}
use Rattle.front_lines.proofs.exchange.answer_line.Goals as goal

pub returns-in-Nothing-clause-ok : goal.returns-in-Nothing-clause-ok
returns-in-Nothing-clause-ok g c =
    answers_nothing c.args.service.now.speaker c.args.text.now c.args.line.now (g.Q.Requests.contents c.args.service.now.requests) (to_come c.args.service.now.feed (g.F.Dialogue.view c.args.service.now.replies)) (line_of c.args.service.now.feed) c.new.result.items c.requires (ap item_in (sym c.in-Nothing.is) ∙ c.in_ok-take_line.ensures.item) c.new.ensures.items

pub returns-in_ok-text-in-Refused-clause-ok : goal.returns-in_ok-text-in-Refused-clause-ok
returns-in_ok-text-in-Refused-clause-ok g c =
    answers_refusal c.args.service.now.speaker c.args.text.now c.args.line.now (g.Q.Requests.contents c.args.service.now.requests) (to_come c.args.service.now.feed (g.F.Dialogue.view c.args.service.now.replies)) (line_of c.args.service.now.feed) c.in_ok-text-in-Refused.field-0.items c.in-Refused.refusal c.requires (ap item_in (sym c.in-Refused.is) ∙ c.in_ok-take_line.ensures.item) c.in_ok-text-in-Refused.ensures
