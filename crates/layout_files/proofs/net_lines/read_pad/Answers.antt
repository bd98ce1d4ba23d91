use Rattle.layout_files.proofs.Prelude.{◌++◌, ◌∙◌, ap, codes, refl, net_name, left_after}
use Rattle.layout_files.proofs.Reading.{net_plain}
use Rattle.layout_files.proofs.net_lines.read_pad.Goals as goal

pub returns-clause-read : goal.returns-clause-read
returns-clause-read c = λ circuit net after same names within e.
    let name = net_name circuit net in
    let pin = name ++ (codes "\n\n" ++ after) in
    let plain = net_plain circuit net names in
    let word = c.word-word.ensures.read name (codes "\npinlist: " ++ pin) plain refl e in
    let found = c.net_named-net.ensures.read circuit net same names within word.0 in
    let pinned = c.word.ensures.read name (codes "\n\n" ++ after) plain refl (c.text.ensures.left ∙ ap (λ v. left_after v (codes "\npinlist: ")) (found.1 ∙ word.1)) in
    (found.0, c.text-2.ensures.left ∙ ap (λ v. left_after v (codes "\n\n")) pinned.1)
