use Rattle.front_lines.proofs.Prelude.{◌≡◌, ℕ, List, [], Bool, rules, subst, sym, ahead_of, line_of, TakesPiece}
use Rattle.front_lines.proofs.ReadLemmas.{ReadingOn, line_ends, line_goes_on, line_pauses}
use Rattle.front_lines.proofs.lines_read.read_line.Goals as goal

pub returns-then-take_piece-clause-reads : goal.returns-then-take_piece-clause-reads
returns-then-take_piece-clause-reads g c =
    let P : Bool → Type 0 = λ b. TakesPiece (ahead_of c.loop.feed) (line_of c.loop.feed) b (ahead_of c.take_piece.new.self) (line_of c.take_piece.new.self) in
    line_ends (g.D.Dialogue.view c.args.dialogue.now) (ahead_of c.args.feed.now) (line_of c.args.feed.now) (g.D.Dialogue.view c.loop.dialogue) (ahead_of c.loop.feed) (line_of c.loop.feed) (ahead_of c.take_piece.new.self) (line_of c.take_piece.new.self) c.loop.invariant (subst P c.if-take_piece.true c.take_piece.ensures)

pub returns-then-is_empty-clause-reads : goal.returns-then-is_empty-clause-reads
returns-then-is_empty-clause-reads g c =
    let P : Bool → Type 0 = λ b. TakesPiece (ahead_of c.loop.feed) (line_of c.loop.feed) b (ahead_of c.take_piece.new.self) (line_of c.take_piece.new.self) in
    let L : List ℕ → Type 0 = λ line. ReadingOn (g.D.Dialogue.view c.args.dialogue.now) (ahead_of c.args.feed.now) (line_of c.args.feed.now) (g.D.Dialogue.view c.refill.new.dialogue) (ahead_of c.refill.new.self) line in
    let went = subst L (sym c.in_ok-refill.ensures.line)
    (line_goes_on (g.D.Dialogue.view c.args.dialogue.now) (ahead_of c.args.feed.now) (line_of c.args.feed.now) (g.D.Dialogue.view c.loop.dialogue) (ahead_of c.loop.feed) (line_of c.loop.feed) (g.D.Dialogue.view c.refill.new.dialogue) (ahead_of c.take_piece.new.self) (line_of c.take_piece.new.self) (ahead_of c.refill.new.self) c.loop.invariant (subst P c.if-take_piece.false c.take_piece.ensures) c.in_ok-refill.ensures.reads) in
    let none : ahead_of c.refill.new.self ≡ [] = search rules in
    line_pauses (g.D.Dialogue.view c.args.dialogue.now) (ahead_of c.args.feed.now) (line_of c.args.feed.now) (g.D.Dialogue.view c.refill.new.dialogue) (ahead_of c.refill.new.self) (line_of c.refill.new.self) went none (c.in_ok-refill.ensures.reads.end none)

pub loop-preserved : goal.loop-preserved
loop-preserved g c =
    let P : Bool → Type 0 = λ b. TakesPiece (ahead_of c.loop.feed) (line_of c.loop.feed) b (ahead_of c.take_piece.new.self) (line_of c.take_piece.new.self) in
    let L : List ℕ → Type 0 = λ line. ReadingOn (g.D.Dialogue.view c.args.dialogue.now) (ahead_of c.args.feed.now) (line_of c.args.feed.now) (g.D.Dialogue.view c.refill.new.dialogue) (ahead_of c.refill.new.self) line in
    subst L (sym c.in_ok-refill.ensures.line)
    (line_goes_on (g.D.Dialogue.view c.args.dialogue.now) (ahead_of c.args.feed.now) (line_of c.args.feed.now) (g.D.Dialogue.view c.loop.dialogue) (ahead_of c.loop.feed) (line_of c.loop.feed) (g.D.Dialogue.view c.refill.new.dialogue) (ahead_of c.take_piece.new.self) (line_of c.take_piece.new.self) (ahead_of c.refill.new.self) c.loop.invariant (subst P c.if-take_piece.false c.take_piece.ensures) c.in_ok-refill.ensures.reads)
