use Rattle.session_threads.proofs.Prelude.{Writes}
use Rattle.session_threads.proofs.ItemLemmas.{serves_line}
use Rattle.session_threads.proofs.session.Session.serve_line.Goals as goal

pub returns-clause-told : goal.returns-clause-told
returns-clause-told g c = serves_line c.args.self.now.transcript.id c.args.items.now.within c.take_line-outcome.new.self.within c.args.line.now c.take_line-outcome.result (λ text. Writes g.W.Sink.contents g.W.Sink.has_failed c.args.writer.now c.serve.new.writer text c.serve.result) c.args.self.now.transcript c.serve.new.self.transcript c.take_line-outcome.ensures.line c.serve.ensures.told
