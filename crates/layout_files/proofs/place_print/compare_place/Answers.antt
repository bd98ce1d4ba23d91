use Rattle.layout_files.proofs.Prelude.{place_headings, text_of}
use Rattle.layout_files.proofs.Lines.{place_heading, place_parts}
use Rattle.layout_files.proofs.Printing.{compared, same_text}
use Rattle.layout_files.proofs.place_print.compare_place.Goals as goal

pub returns : goal.returns
returns c =
    let headings = text_of (place_headings c.args.circuit.now c.args.strip) in
    compared c.outcome.result c.args.text.now c.new-print.result c.print.new.self c.print_places.new.print headings _ _ c.new-print.ensures
    (same_text c.new-print.result c.print.new.self _ headings (place_heading c.args.circuit.now c.args.strip c.as_bytes.result.now c.as_bytes.ensures) c.print.ensures.left)
    (place_parts c.args.circuit.now c.args.strip c.args.layout.now c.blocks-2.result.now c.blocks-2.ensures) c.print_places.ensures
    c.outcome.ensures.ok c.outcome.ensures.err
