use Rattle.layout_check.proofs.Prelude.{graph_of, TwoPins}
use Rattle.layout_check.proofs.Told.{at_two, no_pin_told, two_pins_told}
use Rattle.layout_check.proofs.route.check_pins.Goals as goal

pub returns-in_default : goal.returns-in_default
returns-in_default c = λ root sinks hops. no_pin_told c.args.graph.now c.laws.ensures.lawful root sinks c.args.nodes.now hops (rw c.in_default.is at c.first_pin.ensures)

pub returns-in-Some-other_pin : goal.returns-in-Some-other_pin
returns-in-Some-other_pin c = λ root sinks hops.
    at_two c.args.graph.now c.laws.ensures.lawful root sinks c.args.nodes.now hops TwoPins c.node.result ((graph_of c.args.graph.now).node c.in-Some.pin) c.node-in-Some-other_pin.result
    ((graph_of c.args.graph.now).node c.in-Some-other_pin.other) c.node.ensures c.node-in-Some-other_pin.ensures
    (two_pins_told c.args.graph.now c.laws.ensures.lawful root sinks c.args.nodes.now hops c.requires c.in-Some.pin c.in-Some-other_pin.other c.in-Some.ensures.0 c.in-Some-other_pin.ensures.0 c.in-Some.ensures.1
    c.in-Some-other_pin.ensures.1 c.in-Some-other_pin.ensures.2)
