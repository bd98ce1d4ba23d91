use Rattle.layout_files.proofs.Prelude.{◌++◌, ◌∙◌, ap, codes, decimal, refl, left_after}
use Rattle.layout_files.proofs.route_lines.read_block.Goals as goal

pub returns-clause-read : goal.returns-clause-read
returns-clause-read c = λ name block x y after plain small smallx smally e.
    let end = codes ").\n" ++ after in
    let row = decimal y ++ end in
    let column = decimal x ++ (codes "," ++ row) in
    let number = decimal block ++ (codes ") at (" ++ column) in
    let named = c.word.ensures.read name (codes " (#" ++ number) plain refl e in
    let numbered = c.number-number.ensures.read block (codes ") at (" ++ column) small refl (c.text.ensures.left ∙ ap (λ v. left_after v (codes " (#")) named.1) in
    let across = c.number.ensures.read x (codes "," ++ row) smallx refl (c.text-2.ensures.left ∙ ap (λ v. left_after v (codes ") at (")) numbered.1) in
    let up = c.number-2.ensures.read y end smally refl (c.text-3.ensures.left ∙ ap (λ v. left_after v (codes ",")) across.1) in
    (numbered.0, c.text-4.ensures.left ∙ ap (λ v. left_after v (codes ").\n")) up.1)
