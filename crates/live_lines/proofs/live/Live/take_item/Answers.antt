use Rattle.live_lines.proofs.Prelude.{◌≡◌, [], refl, ◌∙◌, true, rules, is_ok, answer_text, Session, sink_text}
use Rattle.live_lines.proofs.ItemLemmas.{held_as, is_told, item_answers, item_writes, lengths_answered}
use Rattle.live_lines.proofs.live.Live.take_item.Goals as goal

pub returns-in-Ok-clause-steady : goal.returns-in-Ok-clause-steady
returns-in-Ok-clause-steady g c = record {
  ids = c.requires.steady.ids ∙ lengths_answered c.args.self.now.graph.now c.args.self.now.core c.answer.new.core c.last_id-id.result c.args.item c.answer.result.0 c.answer.ensures.answered;
  said = c.requires.steady.said;
}

pub returns-in-Ok-clause-takes : goal.returns-in-Ok-clause-takes
returns-in-Ok-clause-takes g c =
    let self = c.args.self.now in
    let text = answer_text c.answer.result.0 in
    let is : is_ok c.answer.result.1 ≡ true = search rules in
    let none : sink_text c.new-reply.result ≡ [] = search rules in
    let whole : sink_text c.answer.new.writer ≡ text = is_told c.answer.result.1 c.new-reply.result c.answer.new.writer text is none c.answer.ensures.written in
    let bytes : c.as_bytes.result.now ≡ text = held_as c.answer.new.writer c.as_bytes.result.now c.as_bytes.ensures ∙ whole in
    record {
      telling = record { act = Session c.args.name.now c.args.item; calls = c.answer.ensures.answered.0; text = text };
      act = refl;
      answered = item_answers self.operator self.jobs self.graph.now self.core c.answer.new.core c.args.name.now c.last_id-id.result c.args.item c.answer.result.0 c.last_id-id.ensures c.answer.ensures.answered;
      writes = item_writes _ _ c.args.tag.now c.as_bytes.result.now text bytes c.in_ok-write_answer-in-Ok.ensures.bytes;
    }
