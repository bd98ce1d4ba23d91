use Rattle.layout_files.proofs.Prelude.{route_headings, text_of}
use Rattle.layout_files.proofs.Lines.{route_heading, route_parts}
use Rattle.layout_files.proofs.Printing.{compared, same_text}
use Rattle.layout_files.proofs.route_print.compare_route.Goals as goal

pub returns : goal.returns
returns c =
    let headings = text_of (route_headings c.args.strip) in
    compared c.outcome.result c.args.text.now c.new-print.result c.print.new.self c.print_nets.new.print headings _ _ c.new-print.ensures
    (same_text c.new-print.result c.print.new.self _ headings (route_heading c.args.strip) c.print.ensures.left)
    (route_parts c.args.circuit.now c.args.strip c.args.layout.now) c.print_nets.ensures
    c.outcome.ensures.ok c.outcome.ensures.err
