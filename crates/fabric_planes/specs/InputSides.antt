-- Private: the sides of the input pins of logic blocks.
use Rattle.std.specs.Prelude.{ℕ, ◌≡◌, ◌+◌, ◌<◌, List, length, slice_index_or, true}
use Rattle.fabric_planes.specs.Prelude.{Sides, Ipin, is_block_row, sides_at, AreNumbersAt, Basis, graph_of}

-- the list has the pin's sides at this index
pub record HasSides (basis : Basis) (list : List Sides) (index pin : ℕ) : Type 0 where
  pub within : index < length list
  pub sides : (d : Sides) → slice_index_or list index d ≡ sides_at basis.arch basis.strip ((graph_of basis).node pin)

-- of each block the list has the sides of all input pins, in the order of their numbers
abbrev pub AreInputSides : Basis → List Sides → Type 0
AreInputSides basis list = (x y first end index : ℕ) → is_block_row basis.strip y ≡ true → AreNumbersAt (graph_of basis) Ipin x y first end → first + index < end → HasSides basis list index (first + index)
