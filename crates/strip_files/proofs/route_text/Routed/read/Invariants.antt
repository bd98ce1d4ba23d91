use Rattle.strip_files.proofs.Prelude.{List, ◌≡◌, ◌++◌, length, physical_lines, RouteNode, Net, AreEachFrom, AreNamed, IsLineOfNet, net_lines, AreTold, IsLineOfNode, is_node_line, node_lines, first_nodes, is_net_line, net_starts, starts_of}
use Rattle.strip_files.proofs.route_text.Routed.read.Given as goal

-- the nodes read so far, with those of the remaining lines, are the nodes of all lines; and so are
-- the nets, and their first nodes
abbrev pub invariant-loop-rest : goal.invariant-loop-rest
invariant-loop-rest l =
    ((more : List RouteNode) → AreEachFrom IsLineOfNode (length l.routed.nodes.items) (node_lines l.rest) more → AreTold (node_lines l.text) (l.routed.nodes.items ++ more))
    × ((more : List Net) → AreEachFrom IsLineOfNet (length l.routed.nets.items) (net_lines l.rest) more → AreNamed l.text (l.routed.nets.items ++ more))
    × (first_nodes l.routed.nets.items ++ starts_of is_node_line is_net_line (length l.routed.nodes.items) (physical_lines l.rest) ≡ net_starts l.text)

abbrev pub decreases-loop-rest : goal.decreases-loop-rest
decreases-loop-rest l = length (physical_lines l.rest)
