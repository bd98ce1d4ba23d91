use Rattle.layout_check.proofs.Prelude.{◌++◌, map, sym, ap, subst, ◌∙◌, graph_of, path_nodes, number_of, AreHops, AreNodes}
use Rattle.layout_check.proofs.Refute.{hops_small, numbers_small}
use Rattle.layout_check.proofs.paths.check_numbered.Goals as goal

pub check_tree-requires-clause-sinks : goal.check_tree-requires-clause-sinks
check_tree-requires-clause-sinks c =
    let said = rw c.in_default-2.is at c.in_ok-sink.ensures in
    subst (λ ks. AreNodes c.args.graph.now ks) (sym c.as_slice-ends.ensures.value)
    (numbers_small c.args.graph.now c.laws.ensures.lawful c.args.sinks.now c.add_numbers.new.numbers.items
    (record { numbers_are = said.0 ∙ ap (λ front. front ++ map (number_of (graph_of c.args.graph.now)) c.args.sinks.now) c.requires.empty.no_sinks; inside = said.1 }))

pub check_tree-requires-clause-nodes : goal.check_tree-requires-clause-nodes
check_tree-requires-clause-nodes c =
    let so = rw c.in_default.is at c.in_ok-node.ensures in
    subst (λ ks. AreNodes c.args.graph.now ks) (sym c.as_slice-nodes.ensures.value)
    (numbers_small c.args.graph.now c.laws.ensures.lawful (path_nodes c.args.paths.now) c.number_paths.new.nodes.items (record { numbers_are = so.numbers; inside = so.inside }))

pub check_tree-requires-clause-hops : goal.check_tree-requires-clause-hops
check_tree-requires-clause-hops c =
    let so = rw c.in_default.is at c.in_ok-node.ensures in
    subst (λ hs. AreHops c.args.graph.now hs) (sym c.as_slice-hops.ensures.value) (hops_small c.args.graph.now c.laws.ensures.lawful c.args.paths.now c.number_paths.new.nodes.items c.number_paths.new.hops.items so)
