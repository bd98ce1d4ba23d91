use Rattle.layout_files.proofs.Prelude.{◌∙◌, ap, refl, sym, decimal_of, decimal_is}
use Rattle.layout_files.proofs.Printing.{same_inside}
use Rattle.layout_files.proofs.block_lines.number_in.Goals as goal

pub returns-in-Some-clause-read : goal.returns-in-Some-clause-read
returns-in-Some-clause-read c = λ n small e. (same_inside c.in-Some.number n (sym c.in-Some.is ∙ c.decimal_u32.ensures ∙ ap (decimal_of 32) e ∙ decimal_is n small), refl)

pub returns-in-None-clause-read : goal.returns-in-None-clause-read
returns-in-None-clause-read c = λ n small e. absurd (let same = sym c.in-None.is ∙ c.decimal_u32.ensures ∙ ap (decimal_of 32) e ∙ decimal_is n small in cc)
