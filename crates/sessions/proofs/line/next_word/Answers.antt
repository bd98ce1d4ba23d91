use Rattle.sessions.proofs.Prelude.{◌≡◌, ◌<◌, length, arith, nat_tests}
use Rattle.sessions.proofs.WordLemmas.{a_word, no_word}
use Rattle.sessions.proofs.line.next_word.Goals as goal

pub returns-then-is_empty : goal.returns-then-is_empty
returns-then-is_empty c =
    let none : length c.skip_blanks-line.result.now ≡ 0 = grind (arith, nat_tests, c.is_empty.ensures, c.if-is_empty.true) in
    no_word c.args.line.now c.skip_blanks-line.result.now c.skip_blanks-line.ensures none

pub returns : goal.returns
returns c =
    let some : 0 < length c.skip_blanks-line.result.now = grind (arith, nat_tests, c.is_empty.ensures, c.if-is_empty.false) in
    a_word c.args.line.now c.skip_blanks-line.result.now c.split_word.result.0.now c.split_word.result.1.now c.skip_blanks-line.ensures some c.split_word.ensures.word c.split_word.ensures.rest
