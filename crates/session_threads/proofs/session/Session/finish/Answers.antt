use Rattle.session_threads.proofs.Prelude.{Ended, WriterFailed, Wrote}
use Rattle.session_threads.proofs.ToldLemmas.{finishes}
use Rattle.session_threads.proofs.session.Session.finish.Goals as goal

pub returns-in-Ok-clause-told : goal.returns-in-Ok-clause-told
returns-in-Ok-clause-told g c = finishes c.args.self.now.transcript.id c.args.items.now.within c.in-Some.item (λ text how. Wrote g.W.Sink.contents g.W.Sink.has_failed c.args.writer.now c.answer.new.writer text how) c.args.self.now.transcript c.answer.new.self.transcript Ended (λ e. cc) c.in-Some.ensures.ends c.in-Ok.ensures.told

pub returns-in-Err-clause-told : goal.returns-in-Err-clause-told
returns-in-Err-clause-told g c = finishes c.args.self.now.transcript.id c.args.items.now.within c.in-Some.item (λ text how. Wrote g.W.Sink.contents g.W.Sink.has_failed c.args.writer.now c.answer.new.writer text how) c.args.self.now.transcript c.answer.new.self.transcript WriterFailed (λ e. cc) c.in-Some.ensures.ends c.in-Err.ensures.told
