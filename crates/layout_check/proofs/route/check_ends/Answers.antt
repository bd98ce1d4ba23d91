use Rattle.layout_check.proofs.Prelude.{graph_of, EndsAt, LeadsOn, NoSink}
use Rattle.layout_check.proofs.Told.{at_one, ends_are, ends_at_told, leads_on_told, no_sink_told}
use Rattle.layout_check.proofs.route.check_ends.Goals as goal

pub returns-in-Some-clause-exact : goal.returns-in-Some-clause-exact
returns-in-Some-clause-exact c = λ root.
    at_one c.args.graph.now c.laws.ensures.lawful root c.args.sinks.now c.args.nodes.now c.args.hops.now NoSink c.node.result ((graph_of c.args.graph.now).node c.in-Some.sink) c.node.ensures
    (no_sink_told c.args.graph.now c.laws.ensures.lawful root c.args.sinks.now c.args.nodes.now c.args.hops.now c.requires.sinks c.args.work.now.inside c.requires.inside c.in-Some.sink c.in-Some.ensures.0 c.in-Some.ensures.1)

pub returns-in-Some-first_present-clause-exact : goal.returns-in-Some-first_present-clause-exact
returns-in-Some-first_present-clause-exact c = λ root.
    at_one c.args.graph.now c.laws.ensures.lawful root c.args.sinks.now c.args.nodes.now c.args.hops.now LeadsOn c.node-in-Some-first_present.result ((graph_of c.args.graph.now).node c.in-Some-first_present.sink)
    c.node-in-Some-first_present.ensures
    (leads_on_told c.args.graph.now c.laws.ensures.lawful root c.args.sinks.now c.args.nodes.now c.args.hops.now c.mark_starts.new.marks c.mark_starts.ensures.exact c.in-Some-first_present.sink
    c.in-Some-first_present.ensures.0 c.in-Some-first_present.ensures.1)

pub returns-in-Some-first_loose-clause-exact : goal.returns-in-Some-first_loose-clause-exact
returns-in-Some-first_loose-clause-exact c = λ root.
    at_one c.args.graph.now c.laws.ensures.lawful root c.args.sinks.now c.args.nodes.now c.args.hops.now EndsAt c.node-in-Some-first_loose.result ((graph_of c.args.graph.now).node c.in-Some-first_loose.node)
    c.node-in-Some-first_loose.ensures
    (ends_at_told c.args.graph.now c.laws.ensures.lawful root c.args.sinks.now c.args.nodes.now c.args.hops.now c.requires.nodes c.mark_starts.new.marks c.mark_all.new.marks c.mark_starts.ensures.exact c.mark_all.ensures.exact
    c.in-Some-first_loose.node c.in-Some-first_loose.ensures.0 c.in-Some-first_loose.ensures.1 c.in-Some-first_loose.ensures.2)

pub returns-in-None-clause-exact : goal.returns-in-None-clause-exact
returns-in-None-clause-exact c =
    ends_are c.args.graph.now c.laws.ensures.lawful c.args.sinks.now c.args.nodes.now c.args.hops.now c.args.work.now.inside c.mark_starts.new.marks c.mark_all.new.marks c.requires.inside c.mark_starts.ensures.exact
    c.mark_all.ensures.exact (rw c.in_default.is at c.first_missing.ensures) (rw c.in_default-first_present.is at c.first_present.ensures) c.in-None.ensures
