use Rattle.layout_files.proofs.Lines.{input_text, output_text}
use Rattle.layout_files.proofs.Printing.{same_text}
use Rattle.layout_files.proofs.net_print.print_block.Goals as goal

pub returns-in-InputPad : goal.returns-in-InputPad
returns-in-InputPad c =
    same_text _ _ _ _ (input_text c.args.circuit.now c.args.arch.now c.args.laid.now c.in-InputPad.net c.net_name-name.result.now c.in-InputPad.ensures c.net_name-name.ensures) c.print.ensures.left

pub returns-in-OutputPad : goal.returns-in-OutputPad
returns-in-OutputPad c =
    same_text _ _ _ _
    (output_text c.args.circuit.now c.args.arch.now c.args.laid.now c.in-OutputPad.net c.net_name-name-in-OutputPad.result.now c.in-OutputPad.ensures c.net_name-name-in-OutputPad.ensures) c.print-in-OutputPad.ensures.left
