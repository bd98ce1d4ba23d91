use Rattle.layout_files.proofs.Prelude.{◌≡◌, ◌≤◌, ◌<◌, ◌^◌, List, ℕ, All, ◌∷◌, ◌++◌, map, Some, Circuit, Layout, block_of, listed_line, line_of, text_of, size, HasFileNames, IsSmallPlace}
use Rattle.layout_files.proofs.Halfway.{Halfway}
use Rattle.layout_files.proofs.route_lines.read_listed.Given as goal

-- some blocks are read, and the lines of the others are left
abbrev pub invariant-loop-cursor : goal.invariant-loop-cursor
invariant-loop-cursor l = record {
  read : (circuit : Circuit) (layout : Layout) (listed after : List ℕ) → HasFileNames circuit → All (λ laid. IsSmallPlace laid.place) layout.blocks → All (λ block. block < 2 ^ 32) listed
      → l.initial.cursor ≡ Some (text_of (map (λ block. listed_line circuit block (block_of layout block)) listed) ++ (10 ∷ after))
      → Halfway (λ k block. line_of (listed_line circuit block (block_of layout block))) (λ block. block) listed (10 ∷ after) l.listed.items l.cursor;
  shorter : size l.cursor ≤ size l.initial.cursor;
}

abbrev pub decreases-loop-cursor : goal.decreases-loop-cursor
decreases-loop-cursor l = size l.cursor
