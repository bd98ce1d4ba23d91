use Rattle.session_threads.proofs.Prelude.{Ok, subst, prepend_known, LineEnd, ReadsLine}
use Rattle.session_threads.proofs.KnownLemmas.{end_of_ahead}
use Rattle.session_threads.proofs.TurnLemmas.{ends_reading, input_ended, line_served, line_unwritten, none_ahead, reader_fails}
use Rattle.session_threads.proofs.session.Session.turn.Goals as goal

pub returns-in_default-clause-turn : goal.returns-in_default-clause-turn
returns-in_default-clause-turn g c = reader_fails g.W.Sink.contents g.W.Sink.has_failed c.args.writer.now c.args.self.now.transcript.id _ _ c.args.items.now.within _ c.in_default.field-0 c.args.self.now.transcript c.in_default.ensures.line

pub returns-in-Input-clause-turn : goal.returns-in-Input-clause-turn
returns-in-Input-clause-turn g c =
    let P : LineEnd → Type 0 = λ end. ReadsLine (prepend_known c.args.lines.now.input (g.S.Source.remaining c.args.reader.now)) (prepend_known c.read_line.new.self.input (g.S.Source.remaining c.read_line.new.source)) c.read_line.new.self.line (Ok end) in
    let reads = subst P c.in-Input.is c.in-Ok.ensures.line in
    input_ended g.W.Sink.contents g.W.Sink.has_failed c.args.writer.now c.end_input.new.writer c.args.self.now.transcript.id _ _ c.args.items.now.within _ c.args.self.now.transcript c.end_input.new.self.transcript c.end_input.result reads c.end_input.ensures.told

pub returns-in-Input-clause-ahead : goal.returns-in-Input-clause-ahead
returns-in-Input-clause-ahead g c = none_ahead c.end_input.result c.read_line.new.self.input c.end_input.ensures.told.at_end

pub returns-in-Input-clause-reader : goal.returns-in-Input-clause-reader
returns-in-Input-clause-reader g c =
    let P : LineEnd → Type 0 = λ end. ReadsLine (prepend_known c.args.lines.now.input (g.S.Source.remaining c.args.reader.now)) (prepend_known c.read_line.new.self.input (g.S.Source.remaining c.read_line.new.source)) c.read_line.new.self.line (Ok end) in
    let reads = subst P c.in-Input.is c.in-Ok.ensures.line in
    ends_reading _ _ c.end_input.result (end_of_ahead c.read_line.new.self.input (g.S.Source.remaining c.read_line.new.source) reads.3.1) c.end_input.ensures.told.at_end

pub returns-in-Ok-serve_line-clause-turn : goal.returns-in-Ok-serve_line-clause-turn
returns-in-Ok-serve_line-clause-turn g c =
    let P : LineEnd → Type 0 = λ end. ReadsLine (prepend_known c.args.lines.now.input (g.S.Source.remaining c.args.reader.now)) (prepend_known c.read_line.new.self.input (g.S.Source.remaining c.read_line.new.source)) c.read_line.new.self.line (Ok end) in
    let reads = subst P c.in-LineFeed.is c.in-Ok.ensures.line in
    line_served g.W.Sink.contents g.W.Sink.has_failed c.args.writer.now c.serve_line.new.writer c.args.self.now.transcript.id _ _ c.args.items.now.within c.serve_line.new.items.within _ c.args.self.now.transcript c.serve_line.new.self.transcript c.in-Ok-serve_line.field-0 reads c.in-Ok-serve_line.ensures.told

pub returns-in-Err-clause-turn : goal.returns-in-Err-clause-turn
returns-in-Err-clause-turn g c =
    let P : LineEnd → Type 0 = λ end. ReadsLine (prepend_known c.args.lines.now.input (g.S.Source.remaining c.args.reader.now)) (prepend_known c.read_line.new.self.input (g.S.Source.remaining c.read_line.new.source)) c.read_line.new.self.line (Ok end) in
    let reads = subst P c.in-LineFeed.is c.in-Ok.ensures.line in
    line_unwritten g.W.Sink.contents g.W.Sink.has_failed c.args.writer.now c.serve_line.new.writer c.args.self.now.transcript.id _ _ c.args.items.now.within c.serve_line.new.items.within _ c.args.self.now.transcript c.serve_line.new.self.transcript c.in-Err.field-0 reads c.in-Err.ensures.told
