use Rattle.circuit_verilog.proofs.Prelude.{past_from, read_from, block_text}
use Rattle.circuit_verilog.proofs.Lists.{all_texts, one_more}
use Rattle.circuit_verilog.proofs.module.push_blocks.Goals as goal

pub loop-laid-preserved : goal.loop-laid-preserved
loop-laid-preserved c =
    let blocks = c.args.design.layout.now.blocks in
    let at = c.loop-laid.laid-index in
    one_more (block_text c.args.design.netlist.now c.args.design.circuit.now c.args.design.arch.now) blocks at c.laid-item.result c.args.text.now.items c.loop-laid.text.items c.push_block.new.text.items
    (read_from c.blocks-laid-items.result.now blocks c.blocks-laid-items.ensures at c.laid-item.result c.loop-laid-test.true c.laid-item.is) c.loop-laid.invariant c.in_ok-push_block.ensures

pub returns : goal.returns
returns c =
    let blocks = c.args.design.layout.now.blocks in
    all_texts (block_text c.args.design.netlist.now c.args.design.circuit.now c.args.design.arch.now) blocks c.loop-laid.laid-index c.args.text.now.items c.loop-laid.text.items
    (past_from c.blocks-laid-items.result.now blocks c.blocks-laid-items.ensures c.loop-laid.laid-index c.loop-laid-test.false) c.loop-laid.invariant
