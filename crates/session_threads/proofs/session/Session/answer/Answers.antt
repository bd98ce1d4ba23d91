use Rattle.session_threads.proofs.Prelude.{◌≡◌, refl, rules, option_copied, Writes, last_place}
use Rattle.session_threads.proofs.ToldLemmas.{tells_placed}
use Rattle.session_threads.proofs.session.Session.answer.Goals as goal

pub returns-then-note-clause-told : goal.returns-then-note-clause-told
returns-then-note-clause-told g c =
    let last : option_copied c.last_place.result ≡ last_place c.note.new.self.transcript.items = search rules in
    tells_placed c.args.self.now.transcript.id c.args.item (λ text. Writes g.W.Sink.contents g.W.Sink.has_failed c.args.writer.now c.write_told.new.writer text c.write_told.result) c.args.self.now.transcript c.push_ready.new.self.transcript c.note.new.self.transcript c.note.result (option_copied c.last_place.result) refl c.push_ready.ensures.transcript c.if-note.true c.note.ensures.noted last c.write_told.ensures
