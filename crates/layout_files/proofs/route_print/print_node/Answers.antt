use Rattle.layout_files.proofs.Prelude.{◌∙◌, ◌++◌, ◌∷◌, [], ap, codes, decimal, refl, node_text_of, number_word, node_text}
use Rattle.layout_files.proofs.Printing.{printed_as, printed_then}
use Rattle.layout_files.proofs.route_print.print_node.Goals as goal

pub returns : goal.returns
returns c =
    let rows = c.args.rows in
    let node = c.args.node in
    printed_then c.args.print.now c.print.new.self c.print-2.new.self (node_text_of rows node) (10 ∷ [])
    (printed_as c.args.print.now c.print.new.self _ _ c.print.ensures.left
    (node_text rows node c.kind_start.result.now (decimal node.x) (decimal node.y) c.number_start.result.now (decimal node.n)
    c.kind_start.ensures refl refl (c.number_start.ensures ∙ ap (λ pad. codes ") " ++ number_word node.kind pad ++ codes " ") c.is_pad_row.ensures) refl))
    c.print-2.ensures.left
