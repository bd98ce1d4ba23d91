use Rattle.layout_files.proofs.Prelude.{◌∙◌, ap, codes, decimal, or_open, left_after}
use Rattle.layout_files.proofs.ReadingNets.{no_pin, pin_plain, some_pin}
use Rattle.layout_files.proofs.block_lines.read_pin.Goals as goal

pub returns-then-is_word-clause-read : goal.returns-then-is_word-clause-read
returns-then-is_word-clause-read c = λ pin after small stops e.
    let word = c.word-word.ensures.read (or_open decimal pin) after (pin_plain pin small) stops (c.text.ensures.left ∙ ap (λ v. left_after v (codes " ")) e) in
    (no_pin pin c.word-word.result.now c.is_word.result small word.0 c.is_word.ensures c.if-is_word.true, word.1)

pub returns-clause-read : goal.returns-clause-read
returns-clause-read c = λ pin after small stops e.
    let word = c.word-word.ensures.read (or_open decimal pin) after (pin_plain pin small) stops (c.text.ensures.left ∙ ap (λ v. left_after v (codes " ")) e) in
    let found = some_pin pin c.word-word.result.now c.is_word.result c.word-word.new.self c.number_in.new.cursor c.number_in.result small word.0 c.is_word.ensures c.if-is_word.false c.number_in.ensures.read in
    (found.0, found.1 ∙ word.1)
