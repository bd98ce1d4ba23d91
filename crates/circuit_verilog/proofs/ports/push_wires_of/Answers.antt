use Rattle.circuit_verilog.proofs.Prelude.{ℕ, ◌<◌, ◌≤◌, arith, wire_line}
use Rattle.circuit_verilog.proofs.Lists.{number_more, numbers_end}
use Rattle.circuit_verilog.proofs.ports.push_wires_of.Goals as goal

pub loop-net-preserved : goal.loop-net-preserved
loop-net-preserved c =
    let count : ℕ = c.args.count in
    let at : ℕ = c.loop-net.net in
    let within : at < count = (let t = c.loop-net-test.true in omega (arith, t)) in
    number_more wire_line count at c.args.text.now.items c.loop-net.text.items c.push_wire.new.text.items within c.loop-net.invariant c.in_ok-push_wire.ensures

pub returns : goal.returns
returns c =
    let count : ℕ = c.args.count in
    let past : count ≤ c.loop-net.net = (let t = c.loop-net-test.false in omega (arith, t)) in
    numbers_end wire_line count c.loop-net.net c.args.text.now.items c.loop-net.text.items past c.loop-net.invariant
