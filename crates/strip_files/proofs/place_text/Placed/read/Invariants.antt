use Rattle.strip_files.proofs.Prelude.{ℕ, List, ◌≡◌, ◌-◌, ◌++◌, drop, filter, length, is_some, nat_lt, Place, physical_lines, AreFirst, AreEachFrom, IsLineOfPlace, is_place_line, place_lines, places_of}
use Rattle.strip_files.proofs.place_text.Placed.read.Given as goal

-- the size is there after two lines; and the blocks so far, with those of the remaining lines, are
-- those of all lines
abbrev pub invariant-loop-rest : goal.invariant-loop-rest
invariant-loop-rest l =
    AreFirst l.listed l.placed.blocks.items × (is_some l.placed.size ≡ nat_lt 1 l.number)
    × ((more : List (List ℕ × Place)) → AreEachFrom IsLineOfPlace (length (places_of l.placed.blocks.items)) (filter is_place_line (drop (2 - l.number) (physical_lines l.rest))) more → AreEachFrom IsLineOfPlace 0 (place_lines l.text) (places_of l.placed.blocks.items ++ more))

abbrev pub decreases-loop-rest : goal.decreases-loop-rest
decreases-loop-rest l = length (physical_lines l.rest)
