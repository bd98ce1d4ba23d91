use Rattle.vpr_files.proofs.Prelude.{take, flat_map, blocks_of, text_of, block_lines, TakesAll}
use Rattle.vpr_files.proofs.net_file.write_blocks.Given as goal

-- the blocks before this one are written
abbrev pub invariant-loop-number : goal.invariant-loop-number
invariant-loop-number g l = TakesAll g.W.Sink.contents g.W.Sink.has_failed l.initial.sink l.sink (flat_map (λ block. text_of (block_lines l.packed block)) (take l.number (blocks_of l.packed)))
