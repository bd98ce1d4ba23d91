use Rattle.layout_files.proofs.Prelude.{◌≡◌, ◌<◌, ◌^◌, List, All, [], map, Some, length, flat_map, count_by, Arch, Circuit, LaidBlock, laid_lines, text_of, size, AreNumbered, FitsBlock, HasFileNames, is_cluster, IsBare}
use Rattle.layout_files.proofs.Halfway.{Halfway}
use Rattle.layout_files.proofs.net_lines.read_blocks.Given as goal

-- some blocks are read, and the lines of the others are left; their clusters are counted
abbrev pub invariant-loop-blocks : goal.invariant-loop-blocks
invariant-loop-blocks l = (circuit : Circuit) (arch : Arch) (blocks : List LaidBlock) → l.context.names.now ≡ circuit.nets → l.context.lut_size ≡ arch.lut_size → HasFileNames circuit → All (FitsBlock (length circuit.nets) arch.lut_size) blocks
    → All IsBare blocks → AreNumbered blocks → length blocks < 2 ^ 32 → l.places ≡ map (λ laid. laid.place) blocks → l.initial.cursor ≡ Some (text_of (flat_map (laid_lines circuit arch) blocks))
    → Halfway (λ k laid. text_of (laid_lines circuit arch laid)) (λ laid. laid) blocks [] l.blocks.items l.cursor × (l.clusters ≡ count_by (λ laid. is_cluster laid.block) l.blocks.items)

abbrev pub decreases-loop-blocks : goal.decreases-loop-blocks
decreases-loop-blocks l = size l.cursor
