use Rattle.layout_files.proofs.Lines.{net_parts}
use Rattle.layout_files.proofs.Printing.{compared}
use Rattle.layout_files.proofs.net_print.compare_net.Goals as goal

pub returns : goal.returns
returns c =
    compared c.outcome.result c.args.text.now c.new-print.result c.print_globals.new.print c.print_blocks.new.print _ _ _ c.new-print.ensures c.print_globals.ensures
    (net_parts c.args.circuit.now c.args.arch.now c.args.layout.now c.globals.result.now c.blocks-2.result.now c.globals.ensures c.blocks-2.ensures) c.print_blocks.ensures
    c.outcome.ensures.ok c.outcome.ensures.err
