use Rattle.vpr_files.proofs.Prelude.{take, flat_map, places_by_block, place_of, connected_line, line_of, TakesAll}
use Rattle.vpr_files.proofs.route_file.write_readers.Given as goal

-- the lines of the readers before this one are written
abbrev pub invariant-loop-reader : goal.invariant-loop-reader
invariant-loop-reader g l =
    TakesAll g.W.Sink.contents g.W.Sink.has_failed l.initial.sink l.sink (flat_map (λ block. line_of (connected_line l.placing.packed block (place_of (places_by_block l.placing) block))) (take l.reader-index l.readers))
