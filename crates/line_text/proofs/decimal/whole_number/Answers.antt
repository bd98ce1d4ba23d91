use Rattle.line_text.proofs.Prelude.{◌∙◌}
use Rattle.line_text.proofs.DecimalLemmas.{decimal_of-whole}
use Rattle.line_text.proofs.decimal.whole_number.Goals as goal

pub returns : goal.returns
returns c = c.decimal_u32.ensures ∙ decimal_of-whole c.args.bytes.now c.if-bytes-gt-MAX_DIGITS.false
