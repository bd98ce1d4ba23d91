use Rattle.layout_files.proofs.Prelude.{◌≡◌, All, [], Some, Circuit, LaidBlock, List, place_line, line_of, size, HasFileNames, IsSmallPlace, place_lines}
use Rattle.layout_files.proofs.Halfway.{Halfway}
use Rattle.layout_files.proofs.place_lines.read_blocks.Given as goal

-- the places of some blocks are read, and the lines of the others are left
abbrev pub invariant-loop-cursor : goal.invariant-loop-cursor
invariant-loop-cursor l = (circuit : Circuit) (blocks : List LaidBlock) → HasFileNames circuit → All (λ laid. IsSmallPlace laid.place) blocks → l.initial.cursor ≡ Some (place_lines circuit blocks)
    → Halfway (λ k laid. line_of (place_line circuit k laid)) (λ laid. laid.place) blocks [] l.places.items l.cursor

abbrev pub decreases-loop-cursor : goal.decreases-loop-cursor
decreases-loop-cursor l = size l.cursor
