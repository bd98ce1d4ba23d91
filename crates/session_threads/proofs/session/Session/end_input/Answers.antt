use Rattle.session_threads.proofs.Prelude.{◌≡◌, ◌<◌, ℕ, List, [], length, refl, IsLine}
use Rattle.session_threads.proofs.TurnLemmas.{last_line_served, last_line_unwritten, no_last_line}
use Rattle.session_threads.proofs.session.Session.end_input.Goals as goal

pub returns-then-is_empty-clause-told : goal.returns-then-is_empty-clause-told
returns-then-is_empty-clause-told g c =
    let none : (line : List ℕ) → IsLine c.args.line.now line → line ≡ [] = c.if-is_empty.ensures in
    no_last_line g.W.Sink.contents g.W.Sink.has_failed c.args.writer.now c.finish.new.writer c.args.self.now.transcript.id c.args.items.now.within c.args.line.now c.args.self.now.transcript c.finish.new.self.transcript c.finish.result none c.finish.ensures.told

pub returns-in-Ok-clause-told : goal.returns-in-Ok-clause-told
returns-in-Ok-clause-told g c =
    let some : (line : List ℕ) → IsLine c.args.line.now line → 0 < length line = c.if-is_empty.ensures in
    last_line_served g.W.Sink.contents g.W.Sink.has_failed c.args.writer.now c.serve_line.new.writer c.finish-in-Ok.new.writer c.args.self.now.transcript.id c.args.items.now.within c.serve_line.new.items.within c.args.line.now c.args.self.now.transcript c.serve_line.new.self.transcript c.finish-in-Ok.new.self.transcript c.finish-in-Ok.result c.in-Ok.field-0 refl some c.in-Ok.ensures.told c.finish-in-Ok.ensures.told

pub returns-in-Err-clause-told : goal.returns-in-Err-clause-told
returns-in-Err-clause-told g c =
    let some : (line : List ℕ) → IsLine c.args.line.now line → 0 < length line = c.if-is_empty.ensures in
    last_line_unwritten g.W.Sink.contents g.W.Sink.has_failed c.args.writer.now c.serve_line.new.writer c.args.self.now.transcript.id c.args.items.now.within c.serve_line.new.items.within c.args.line.now c.args.self.now.transcript c.serve_line.new.self.transcript c.in-Err.field-0 some c.in-Err.ensures.told
