use Rattle.configuration_text.proofs.Prelude.{block_lines}
use Rattle.configuration_text.proofs.Rest.{past_from, read_from}
use Rattle.configuration_text.proofs.Texts.{all_end, all_more}
use Rattle.configuration_text.proofs.text.push_blocks.Goals as goal

pub loop-laid-preserved : goal.loop-laid-preserved
loop-laid-preserved c =
    let blocks = c.args.design.layout.now.blocks in
    let at = c.loop-laid.laid-index in
    all_more (block_lines c.args.design.netlist.now c.args.design.circuit.now c.args.design.arch.now c.args.design.layout.now) blocks at c.loop-laid.text.items c.args.text.now.items _ c.laid-item.result c.push_block.new.text.items
    (read_from c.blocks-laid-items.result.now blocks c.blocks-laid-items.ensures at c.laid-item.result c.loop-laid-test.true c.laid-item.is) c.loop-laid.invariant c.in_ok-push_block.ensures

pub returns : goal.returns
returns c =
    all_end (block_lines c.args.design.netlist.now c.args.design.circuit.now c.args.design.arch.now c.args.design.layout.now) c.args.design.layout.now.blocks c.loop-laid.laid-index c.loop-laid.text.items c.args.text.now.items _
    (past_from c.blocks-laid-items.result.now c.args.design.layout.now.blocks c.blocks-laid-items.ensures c.loop-laid.laid-index c.loop-laid-test.false) c.loop-laid.invariant
