use Rattle.layout_check.proofs.Prelude.{◌≡◌, ℕ, true, get_or, arith, rules, below_more, is_edge, graph_of}
use Rattle.layout_check.proofs.Numbers.{each_hop}
use Rattle.layout_check.proofs.routes.first_gap.Goals as goal

pub loop-hop-preserved : goal.loop-hop-preserved
loop-hop-preserved c =
    below_more
    (λ (k : ℕ). is_edge c.args.graph.now.arch c.args.graph.now.strip ((graph_of c.args.graph.now).node (get_or c.args.hops.now k (0, 0)).0) ((graph_of c.args.graph.now).node (get_or c.args.hops.now k (0, 0)).1) ≡ true)
    c.loop-hop.hop-index c.loop-hop.invariant (search rules)

pub returns : goal.returns
returns c =
    each_hop (λ (a b : ℕ). is_edge c.args.graph.now.arch c.args.graph.now.strip ((graph_of c.args.graph.now).node a) ((graph_of c.args.graph.now).node b) ≡ true) c.args.hops.now c.loop-hop.hop-index (omega arith)
    c.loop-hop.invariant
