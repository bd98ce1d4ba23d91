use Rattle.vpr_files.proofs.Prelude.{[], map, slice_index_or, take, flat_map, node_line, text_of, TakesAll}
use Rattle.vpr_files.proofs.route_file.write_paths.Given as goal

-- the paths before this one are written
abbrev pub invariant-loop-number : goal.invariant-loop-number
invariant-loop-number g l =
    TakesAll g.W.Sink.contents g.W.Sink.has_failed l.initial.sink l.sink (flat_map (λ path. text_of (map (node_line l.strip) path)) (take l.number (slice_index_or l.routes l.net [])))
