use Rattle.configuration_text.proofs.Prelude.{switch_lines}
use Rattle.configuration_text.proofs.Rest.{read_get}
use Rattle.configuration_text.proofs.Texts.{all_end, all_more}
use Rattle.configuration_text.proofs.text.push_nets.Goals as goal

pub loop-between-preserved : goal.loop-between-preserved
loop-between-preserved c =
    let nets = c.args.nets.now in
    let at = c.loop-between.between-index in
    all_more switch_lines nets at c.loop-between.text.items c.args.text.now.items _ c.between-item.result c.push_switches.new.text.items
    (read_get nets at c.between-item.result c.loop-between-test.true c.between-item.is) c.loop-between.invariant c.in_ok-push_switches.ensures

pub returns : goal.returns
returns c = all_end switch_lines c.args.nets.now c.loop-between.between-index c.loop-between.text.items c.args.text.now.items _ c.loop-between-test.false c.loop-between.invariant
