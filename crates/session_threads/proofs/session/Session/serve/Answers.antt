use Rattle.session_threads.proofs.Prelude.{◌∙◌, ap, Writes, with_no_memory}
use Rattle.session_threads.proofs.ToldLemmas.{serves_item, serves_none}
use Rattle.session_threads.proofs.session.Session.serve.Goals as goal

pub returns-in-Item-clause-told : goal.returns-in-Item-clause-told
returns-in-Item-clause-told g c = rw c.in-Item.is (serves_item c.args.self.now.transcript.id c.in-Item.item (λ text. Writes g.W.Sink.contents g.W.Sink.has_failed c.args.writer.now c.answer.new.writer text c.answer.result) c.args.self.now.transcript c.answer.new.self.transcript c.answer.ensures.told)

pub returns-in-NoMemory-clause-told : goal.returns-in-NoMemory-clause-told
returns-in-NoMemory-clause-told g c = rw c.in-NoMemory.is (serves_none c.args.self.now.transcript.id (λ text. Writes g.W.Sink.contents g.W.Sink.has_failed c.args.writer.now c.write_told.new.writer text c.write_told.result) c.args.self.now.transcript c.count_no_memory.new.self (c.count_no_memory.ensures ∙ ap with_no_memory c.push_ready.ensures.transcript) c.write_told.ensures)
