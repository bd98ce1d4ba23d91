use Rattle.session_threads.proofs.Prelude.{◌∙◌, refl}
use Rattle.session_threads.proofs.SessionLemmas.{going_begins, goes_on, stops}
use Rattle.session_threads.proofs.session.Session.read_all.Goals as goal

pub loop-init : goal.loop-init
loop-init g c = record {
  of = c.requires;
  kept = refl;
  going = going_begins g.W.Sink.contents g.W.Sink.has_failed c.args.writer.now c.args.self.now.transcript.id c.args.self.now.transcript (g.S.Source.remaining c.args.reader.now) c.new-lines.result.input c.new-items.result.within c.new-lines.ensures c.new-items.ensures;
}

pub returns-in-Some-turn-clause-session : goal.returns-in-Some-turn-clause-session
returns-in-Some-turn-clause-session g c =
    stops g.W.Sink.contents g.W.Sink.has_failed c.args.writer.now c.loop.writer c.turn-turn.new.writer c.args.self.now.transcript.id c.loop.self.transcript.id c.args.self.now.transcript c.loop.self.transcript c.turn-turn.new.self.transcript _ _ _ c.loop.items.within c.in-Some-turn.end c.turn-turn.new.lines.input (g.S.Source.remaining c.turn-turn.new.reader) refl refl c.loop.invariant.going c.in-Some-turn.ensures.turn refl c.in-Some-turn.ensures.ahead

pub loop-preserved : goal.loop-preserved
loop-preserved g c = record {
  of = c.in_default.ensures.of ∙ c.loop.invariant.of;
  kept = c.in_default.ensures.of ∙ c.loop.invariant.kept;
  going = goes_on g.W.Sink.contents g.W.Sink.has_failed c.args.writer.now c.loop.writer c.turn-turn.new.writer c.args.self.now.transcript.id c.loop.self.transcript.id c.args.self.now.transcript c.loop.self.transcript c.turn-turn.new.self.transcript _ _ _ c.loop.items.within c.turn-turn.new.items.within refl refl c.loop.invariant.going c.in_default.ensures.turn;
}
