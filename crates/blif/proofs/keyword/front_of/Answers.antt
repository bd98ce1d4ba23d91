use Rattle.blif.proofs.Prelude.{◌∙◌, ap, sym, front_of}
use Rattle.blif.proofs.Words.{front_of-texts}
use Rattle.blif.proofs.keyword.front_of.Goals as goal

pub returns-in-len1-up : goal.returns-in-len1-up
returns-in-len1-up c = sym (ap front_of (sym c.words-words.ensures) ∙ front_of-texts c.words-words.result.now)
