use Rattle.rr_graph.proofs.Prelude.{◌≡◌, ◌+◌, ◌*◌, ◌-◌, arith, rules, column_count}
use Rattle.rr_graph.proofs.Graphs.{node_indexed, node_numbered}
use Rattle.rr_graph.proofs.numbering.Nodes.number.Goals as goal

pub overflow_sub-result : goal.overflow_sub-result
overflow_sub-result c =
    let lens : c.len.result ≡ column_count c.args.self.now.numbering = search rules in
    rw lens (node_indexed c.args.self.now.numbering c.args.node c.index.result c.args.self.now.lawful c.requires c.index.ensures).1

pub returns-clause-within : goal.returns-clause-within
returns-clause-within c =
    let lens : c.len.result ≡ column_count c.args.self.now.numbering = search rules in
    let index = node_indexed c.args.self.now.numbering c.args.node c.index.result c.args.self.now.lawful c.requires c.index.ensures in
    rw lens (omega (arith, index.0, index.1))

pub returns-clause-value : goal.returns-clause-value
returns-clause-value c =
    let lens : c.len.result ≡ column_count c.args.self.now.numbering = search rules in
    let index = node_indexed c.args.self.now.numbering c.args.node c.index.result c.args.self.now.lawful c.requires c.index.ensures in
    rw lens (node_numbered c.args.self.now.numbering c.args.node c.index.result
    (c.args.node.x * column_count c.args.self.now.numbering + c.index.result - c.args.self.now.numbering.before) c.args.self.now.lawful c.requires c.index.ensures (omega (arith, index.1))).1
