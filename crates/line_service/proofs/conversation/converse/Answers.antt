use Rattle.line_service.proofs.Prelude.{◌≡◌, ℕ, ◌+◌, List, [], Bool, subst, sym, refl, arith, rules, ahead_of, line_of, TakesPiece}
use Rattle.line_service.proofs.EndLemmas.{input_ends, read_fails, too_many, turn_fails}
use Rattle.line_service.proofs.TalkLemmas.{Progress, piece_taken, progress_none, refilled, turn_taken}
use Rattle.line_service.proofs.conversation.converse.Goals as goal

pub loop-init : goal.loop-init
loop-init g c = record {
  ready = c.requires.ready;
  progress = progress_none g.A.Answers.answers c.args.service.now c.args.number.now (g.D.Dialogue.view c.args.dialogue.now) (ahead_of c.args.feed.now) (line_of c.args.feed.now) c.requires.ahead c.requires.line;
}

pub returns-then-number-eq18446744073709551615-clause-conversation : goal.returns-then-number-eq18446744073709551615-clause-conversation
returns-then-number-eq18446744073709551615-clause-conversation g c =
    too_many g.A.Answers.answers _ _ _ _ _ _ (ahead_of c.loop.feed) (line_of c.loop.feed) c.loop.invariant.progress (omega (arith, c.if-number-eq18446744073709551615.true))

pub returns-in-Err-clause-conversation : goal.returns-in-Err-clause-conversation
returns-in-Err-clause-conversation g c =
    let P : Bool → Type 0 = λ b. TakesPiece (ahead_of c.loop.feed) (line_of c.loop.feed) b (ahead_of c.take_piece.new.self) (line_of c.take_piece.new.self) in
    turn_fails _ g.A.Answers.answers _ _ _ c.loop.number (g.D.Dialogue.view c.loop.dialogue) (g.D.Dialogue.view c.take_turn.new.dialogue) c.loop.service c.take_turn.new.service (ahead_of c.loop.feed) (line_of c.loop.feed) (ahead_of c.take_piece.new.self) (line_of c.take_piece.new.self) c.in-Err.end c.loop.invariant.progress (subst P c.if-take_piece.true c.take_piece.ensures) c.in-Err.ensures.turn

pub loop-preserved-then-take_piece : goal.loop-preserved-then-take_piece
loop-preserved-then-take_piece g c =
    let P : Bool → Type 0 = λ b. TakesPiece (ahead_of c.loop.feed) (line_of c.loop.feed) b (ahead_of c.take_piece.new.self) (line_of c.take_piece.new.self) in
    let A : List ℕ → Type 0 = λ ahead. Progress g.A.Answers.answers c.args.service.now c.args.number.now (g.D.Dialogue.view c.args.dialogue.now) (c.loop.number + 1) (g.D.Dialogue.view c.take_turn.new.dialogue) c.take_turn.new.service ahead (line_of c.begin_line.new.self) in
    record {
      ready = c.in-Ok.ensures.ready;
      progress = subst A (sym c.begin_line.ensures.ahead)
          (turn_taken g.A.Answers.answers _ _ _ c.loop.number (c.loop.number + 1) (g.D.Dialogue.view c.loop.dialogue) (g.D.Dialogue.view c.take_turn.new.dialogue) c.loop.service c.take_turn.new.service (ahead_of c.loop.feed) (line_of c.loop.feed) (ahead_of c.take_piece.new.self) (line_of c.take_piece.new.self) (line_of c.begin_line.new.self) refl c.loop.invariant.progress (subst P c.if-take_piece.true c.take_piece.ensures) c.begin_line.ensures.line c.in-Ok.ensures.turn);
    }

pub returns-in-Err-refill-clause-conversation : goal.returns-in-Err-refill-clause-conversation
returns-in-Err-refill-clause-conversation g c =
    let P : Bool → Type 0 = λ b. TakesPiece (ahead_of c.loop.feed) (line_of c.loop.feed) b (ahead_of c.take_piece.new.self) (line_of c.take_piece.new.self) in
    let piece = subst P c.if-take_piece.false c.take_piece.ensures in
    let went = piece_taken g.A.Answers.answers c.args.service.now c.args.number.now (g.D.Dialogue.view c.args.dialogue.now) c.loop.number (g.D.Dialogue.view c.loop.dialogue) c.loop.service (ahead_of c.loop.feed) (line_of c.loop.feed) (ahead_of c.take_piece.new.self) (line_of c.take_piece.new.self) c.loop.invariant.progress piece in
    read_fails _ g.A.Answers.answers _ _ _ c.loop.number (g.D.Dialogue.view c.loop.dialogue) (g.D.Dialogue.view c.refill.new.dialogue) c.loop.service (ahead_of c.take_piece.new.self) (line_of c.take_piece.new.self) c.in-Err-refill.fault piece.rest.1 went c.in-Err-refill.ensures.reads

pub loop-preserved : goal.loop-preserved
loop-preserved g c =
    let P : Bool → Type 0 = λ b. TakesPiece (ahead_of c.loop.feed) (line_of c.loop.feed) b (ahead_of c.take_piece.new.self) (line_of c.take_piece.new.self) in
    let piece = subst P c.if-take_piece.false c.take_piece.ensures in
    let went = piece_taken g.A.Answers.answers c.args.service.now c.args.number.now (g.D.Dialogue.view c.args.dialogue.now) c.loop.number (g.D.Dialogue.view c.loop.dialogue) c.loop.service (ahead_of c.loop.feed) (line_of c.loop.feed) (ahead_of c.take_piece.new.self) (line_of c.take_piece.new.self) c.loop.invariant.progress piece in
    let L : List ℕ → Type 0 = λ line. Progress g.A.Answers.answers c.args.service.now c.args.number.now (g.D.Dialogue.view c.args.dialogue.now) c.loop.number (g.D.Dialogue.view c.refill.new.dialogue) c.loop.service (ahead_of c.refill.new.self) line in
    record {
      ready = c.loop.invariant.ready;
      progress = subst L (sym c.in-Ok-refill.ensures.line)
          (refilled g.A.Answers.answers _ _ _ c.loop.number (g.D.Dialogue.view c.loop.dialogue) (g.D.Dialogue.view c.refill.new.dialogue) c.loop.service (ahead_of c.take_piece.new.self) (line_of c.take_piece.new.self) (ahead_of c.refill.new.self) piece.rest.1 went c.in-Ok-refill.ensures.reads);
    }

pub returns-then-is_empty-clause-conversation : goal.returns-then-is_empty-clause-conversation
returns-then-is_empty-clause-conversation g c =
    let P : Bool → Type 0 = λ b. TakesPiece (ahead_of c.loop.feed) (line_of c.loop.feed) b (ahead_of c.take_piece.new.self) (line_of c.take_piece.new.self) in
    let piece = subst P c.if-take_piece.false c.take_piece.ensures in
    let went = piece_taken g.A.Answers.answers c.args.service.now c.args.number.now (g.D.Dialogue.view c.args.dialogue.now) c.loop.number (g.D.Dialogue.view c.loop.dialogue) c.loop.service (ahead_of c.loop.feed) (line_of c.loop.feed) (ahead_of c.take_piece.new.self) (line_of c.take_piece.new.self) c.loop.invariant.progress piece in
    let L : List ℕ → Type 0 = λ line. Progress g.A.Answers.answers c.args.service.now c.args.number.now (g.D.Dialogue.view c.args.dialogue.now) c.loop.number (g.D.Dialogue.view c.refill.new.dialogue) c.loop.service (ahead_of c.refill.new.self) line in
    let filled = subst L (sym c.in-Ok-refill.ensures.line) (refilled g.A.Answers.answers _ _ _ c.loop.number (g.D.Dialogue.view c.loop.dialogue) (g.D.Dialogue.view c.refill.new.dialogue) c.loop.service (ahead_of c.take_piece.new.self) (line_of c.take_piece.new.self) (ahead_of c.refill.new.self) piece.rest.1 went c.in-Ok-refill.ensures.reads) in
    let none : ahead_of c.refill.new.self ≡ [] = search rules in
    input_ends g.A.Answers.answers _ _ _ c.loop.number (g.D.Dialogue.view c.refill.new.dialogue) c.loop.service (ahead_of c.refill.new.self) (line_of c.refill.new.self) none (c.in-Ok-refill.ensures.reads.end none) filled
