-- The lines of the blocks in a `.place` file.
use Rattle.std.specs.Prelude.{ℕ, ◌≡◌, ◌++◌, Bool, false, not, nat_lt, ◌==◌, List, [], ◌∷◌, drop, filter, length, map, codes, Some, if◌then◌else◌}
use Rattle.strip_files.specs.Prelude.{decimal_of, physical_lines, Place}
use Rattle.strip_files.specs.EachLine.{AddsNext, AreEachFrom}
use Rattle.strip_files.specs.declared.block.PlacedBlock.{PlacedBlock}

-- whether a line after the size has a block: it is not empty, and no comment
abbrev pub is_place_line : List ℕ → Bool
is_place_line [] = false
is_place_line (byte ∷ rest) = not (byte == 35)

-- the line has the name of a block, the column, the row and the pad of its place, and its number,
-- in decimal digits
pub record IsPlaceLine (number : ℕ) (line name : List ℕ) (place : Place) : Type 0 where
  pub column : List ℕ
  pub row : List ℕ
  pub pad : List ℕ
  pub digits : List ℕ
  pub text : line ≡ name ++ (codes " " ++ (column ++ (codes " " ++ (row ++ (codes " " ++ (pad ++ (codes " #" ++ digits)))))))
  pub x : decimal_of 32 column ≡ Some place.x
  pub y : decimal_of 32 row ≡ Some place.y
  pub subblock : decimal_of 32 pad ≡ Some place.subblock
  pub number_is : decimal_of 32 digits ≡ Some number

-- the line of a block of that name at that place
abbrev pub IsLineOfPlace : ℕ → List ℕ → List ℕ × Place → Type 0
IsLineOfPlace number line block = IsPlaceLine number line block.0 block.1

-- the lines of a text with a block, which are after the two of its head
abbrev pub place_lines : List ℕ → List (List ℕ)
place_lines text = filter is_place_line (drop 2 (physical_lines text))

-- the names and the places of blocks
abbrev pub places_of : List PlacedBlock → List (List ℕ × Place)
places_of blocks = map (λ block. (block.name.now, block.place)) blocks

-- the blocks are those of the text's lines, by number, with their names and places
abbrev pub HavePlaces : List ℕ → List PlacedBlock → Type 0
HavePlaces text blocks = AreEachFrom IsLineOfPlace 0 (place_lines text) (places_of blocks)

-- private: whether a line has a block, with this number of lines before it
abbrev pub has_place : ℕ → List ℕ → Bool
has_place before line = if nat_lt before 2 then false else is_place_line line

-- private: the block of a line is read, with this number of lines before it
abbrev pub IsPlaceReadOn : ℕ → List ℕ → List PlacedBlock → List PlacedBlock → Type 0
IsPlaceReadOn before line old new = AddsNext (has_place before line) (IsLineOfPlace (length (places_of old)) line) (places_of old) (places_of new)
