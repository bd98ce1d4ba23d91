use Rattle.layout_files.proofs.Prelude.{◌∙◌, ◌++◌, ◌==◌, ℕ, List, ap, codes, length, map, sym, block_of, listed_line, text_of, connected_text}
use Rattle.layout_files.proofs.Lines.{connected_listed}
use Rattle.layout_files.proofs.Printing.{finish}
use Rattle.layout_files.proofs.route_print.print_connected.Goals as goal

pub returns : goal.returns
returns c =
    let circuit = c.args.circuit.now in
    let layout = c.args.layout.now in
    let net = c.args.net.now in
    let text : List ℕ → List ℕ = λ listed. text_of (map (λ block. listed_line circuit block (block_of layout block)) listed) in
    finish c.args.print.now c.print-2.new.self c.print_listed.new.print (codes "): global net connecting:\n\n") (text c.listed_blocks-2.result.now) (connected_text circuit c.args.strip layout net net.listed)
    c.print-2.ensures.left
    (ap (λ listed. codes "): global net connecting:\n\n" ++ text listed) c.listed_blocks-2.ensures
    ∙ connected_listed circuit c.args.strip layout net net.listed (ap (λ (listed : List ℕ). length listed == 0) (sym c.listed_blocks.ensures) ∙ sym c.is_empty.ensures ∙ c.if-is_empty.false))
    c.print_listed.ensures
