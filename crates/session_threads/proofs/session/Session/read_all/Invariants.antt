use Rattle.session_threads.proofs.Prelude.{◌≡◌, prepend_known}
use Rattle.session_threads.proofs.SessionLemmas.{Going}
use Rattle.session_threads.proofs.session.Session.read_all.Given as goal

abbrev pub invariant-loop : goal.invariant-loop
invariant-loop g l = record {
  of : l.self.pass.of ≡ l.context.ready.now;
  kept : l.self.pass.of ≡ l.fn.self.pass.of;
  going : Going l.fn.self.transcript.id l.fn.self.transcript l.self.transcript (g.S.Source.remaining l.fn.reader) (prepend_known l.lines.input (g.S.Source.remaining l.reader)) l.items.within g.W.Sink.contents g.W.Sink.has_failed l.fn.writer l.writer;
}
