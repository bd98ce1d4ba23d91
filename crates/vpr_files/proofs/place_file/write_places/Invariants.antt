use Rattle.vpr_files.proofs.Prelude.{length, take, flat_map, range_with_len, blocks_of, places_by_block, place_of, placed_line, line_of, TakesAll}
use Rattle.vpr_files.proofs.place_file.write_places.Given as goal

-- the lines of the blocks before this one are written
abbrev pub invariant-loop-block : goal.invariant-loop-block
invariant-loop-block g l =
    TakesAll g.W.Sink.contents g.W.Sink.has_failed l.initial.sink l.sink (flat_map (λ block. line_of (placed_line l.placing.packed block (place_of (places_by_block l.placing) block))) (take l.block (range_with_len 0 (length (blocks_of l.placing.packed)))))
