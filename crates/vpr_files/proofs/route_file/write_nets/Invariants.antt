use Rattle.vpr_files.proofs.Prelude.{[], slice_index_or, take, enumerate_from, flat_map, block_nets, places_by_block, net_lines, text_of, TakesAll}
use Rattle.vpr_files.proofs.route_file.write_nets.Given as goal

-- the lines of the nets before this one are written
abbrev pub invariant-loop-number : goal.invariant-loop-number
invariant-loop-number g l =
    TakesAll g.W.Sink.contents g.W.Sink.has_failed l.initial.sink l.sink (flat_map (λ net. text_of (net_lines l.placing.strip l.placing.packed (places_by_block l.placing) net.0 net.1 (slice_index_or l.routes net.0 []))) (take l.number (enumerate_from 0 (block_nets l.placing.packed))))
