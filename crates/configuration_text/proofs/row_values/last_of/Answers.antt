use Rattle.configuration_text.proofs.Prelude.{◌∙◌, ap, sym, arith, last_of}
use Rattle.configuration_text.proofs.LastWord.{last_of-texts}
use Rattle.configuration_text.proofs.row_values.last_of.Goals as goal

pub returns-in-len1-up : goal.returns-in-len1-up
returns-in-len1-up c = sym (ap last_of (sym c.words.ensures) ∙ last_of-texts c.words.result.now _ (omega arith))
