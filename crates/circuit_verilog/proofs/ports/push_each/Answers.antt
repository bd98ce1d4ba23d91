use Rattle.circuit_verilog.proofs.Prelude.{slice_get-get_or, net_text}
use Rattle.circuit_verilog.proofs.Lists.{one_more}
use Rattle.circuit_verilog.proofs.ports.push_each.Goals as goal

pub loop-net-preserved : goal.loop-net-preserved
loop-net-preserved c =
    let nets = c.args.nets.now in
    let at = c.loop-net.net-index in
    one_more (net_text c.args.what c.args.circuit.now) nets at _ c.args.text.now.items c.loop-net.text.items c.push_net.new.text.items (slice_get-get_or nets at 0 c.loop-net-test.true) c.loop-net.invariant c.in_ok-push_net.ensures
