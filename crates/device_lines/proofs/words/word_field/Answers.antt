use Rattle.device_lines.proofs.Prelude.{refl, word_field}
use Rattle.device_lines.proofs.words.word_field.Goals as goal

pub returns-in_err-after_text : goal.returns-in_err-after_text
unfolding word_field
returns-in_err-after_text c = rw (c.from_residual.ensures, ← c.split_word.ensures.rest, ← c.in_err-after_text.ensures) refl

pub returns : goal.returns
unfolding word_field
returns c = rw (← c.split_word.ensures.word, ← c.split_word.ensures.rest, ← c.in_ok-after_text.ensures) refl
