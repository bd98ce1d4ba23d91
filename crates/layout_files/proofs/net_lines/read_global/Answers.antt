use Rattle.layout_files.proofs.Prelude.{◌∷◌, ◌∙◌, ap, codes, refl, net_name, left_after}
use Rattle.layout_files.proofs.Reading.{net_plain}
use Rattle.layout_files.proofs.net_lines.read_global.Goals as goal

pub returns-clause-read : goal.returns-clause-read
returns-clause-read c = λ circuit net after same names within e.
    let word = c.word-word.ensures.read (net_name circuit net) (10 ∷ after) (net_plain circuit net names) refl (c.expect.ensures ∙ e) in
    let found = c.net_named-net.ensures.read circuit net same names within word.0 in
    (found.0, c.text.ensures.left ∙ ap (λ v. left_after v (codes "\n")) (found.1 ∙ word.1))
