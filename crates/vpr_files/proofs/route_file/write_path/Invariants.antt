use Rattle.vpr_files.proofs.Prelude.{take, flat_map, node_line, line_of, TakesAll}
use Rattle.vpr_files.proofs.route_file.write_path.Given as goal

-- the nodes before this one are written
abbrev pub invariant-loop-node : goal.invariant-loop-node
invariant-loop-node g l =
    TakesAll g.W.Sink.contents g.W.Sink.has_failed l.initial.sink l.sink (flat_map (λ node. line_of (node_line l.strip node)) (take l.node-index l.path))
