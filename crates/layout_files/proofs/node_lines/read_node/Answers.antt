use Rattle.layout_files.proofs.Prelude.{◌==◌, ◌||◌, nat_lt, ◌++◌, ◌∷◌, ◌∙◌, Some, ap, codes, decimal, refl, number_word, left_after}
use Rattle.layout_files.proofs.ReadingRoutes.{node_read, same_node}
use Rattle.layout_files.proofs.node_lines.read_node.Goals as goal

pub returns-clause-read : goal.returns-clause-read
returns-clause-read c = λ rows node after small e.
    let pad = (node.y == 0) || nat_lt rows node.y in
    let number = decimal node.n ++ (10 ∷ after) in
    let counted = codes ") " ++ (number_word node.kind pad ++ (32 ∷ number)) in
    let row = decimal node.y ++ counted in
    let kind = c.read_kind-kind.ensures.read node.kind (decimal node.x ++ (codes "," ++ row)) (e ∙ ap Some (node_read rows node after)) in
    let x = c.number-x.ensures.read node.x (codes "," ++ row) small.x refl (c.expect.ensures ∙ kind.1) in
    let y = c.number-y.ensures.read node.y counted small.y refl (c.text.ensures.left ∙ ap (λ v. left_after v (codes ",")) x.1) in
    let n = c.number-n.ensures.read node.n (10 ∷ after) small.n refl (c.read_counted.ensures.read node.kind pad number y.1) in (
      same_node node c.number-x.result c.number-y.result c.number-n.result c.read_kind-kind.result x.0 kind.0 y.0 n.0,
      c.text-2.ensures.left ∙ ap (λ v. left_after v (codes "\n")) n.1,
    )
