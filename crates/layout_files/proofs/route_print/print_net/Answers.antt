use Rattle.layout_files.proofs.Prelude.{◌∙◌, ◌++◌, ◌∷◌, [], ℕ, List, ap, append-nil, codes, decimal, net_name, connected_text, heading_text, between_lines, text_of}
use Rattle.layout_files.proofs.Lines.{net_printed}
use Rattle.layout_files.proofs.Printing.{finish, printed_as, printed_then}
use Rattle.layout_files.proofs.route_print.print_net.Goals as goal

pub returns : goal.returns
returns c =
    let start = c.args.print.now in
    let headed = c.print.new.self in
    let connected = c.print_connected.new.print in
    let heading : List ℕ = heading_text c.args.circuit.now c.args.number c.args.net.now.net in
    let rest : List ℕ = connected_text c.args.circuit.now c.args.strip c.args.layout.now c.args.net.now c.args.net.now.listed in
    finish start connected c.print-2.new.self (heading ++ rest) (10 ∷ []) (text_of (between_lines c.args.circuit.now c.args.strip c.args.layout.now c.args.number c.args.net.now c.args.net.now.listed))
    (printed_then start headed connected heading rest (printed_as start headed _ heading c.print.ensures.left (ap (λ (name : List ℕ). codes "Net " ++ (decimal c.args.number ++ (codes " (" ++ name))) (append-nil c.net_name.result.now ∙ c.net_name.ensures ∙ ap (net_name c.args.circuit.now) c.net.ensures))) c.print_connected.ensures)
    (net_printed c.args.circuit.now c.args.strip c.args.layout.now c.args.number c.args.net.now c.args.net.now.listed) c.print-2.ensures.left
