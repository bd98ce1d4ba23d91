-- Sets of numbers below a count, as a list that says of each number whether it is in the set.
use Rattle.std.specs.Prelude.{ℕ, ◌≡◌, ◌↔◌, Bool, true, false, List, Contains, slice_index_or}

-- whether the number is in the set
abbrev pub is_in : List Bool → ℕ → Bool
is_in marks number = slice_index_or marks number false

-- the set has no number
abbrev pub IsClear : List Bool → Type 0
IsClear marks = (number : ℕ) → is_in marks number ≡ false

-- the set has exactly the numbers of the list
abbrev pub IsSetOf : List ℕ → List Bool → Type 0
IsSetOf numbers marks = (number : ℕ) → (is_in marks number ≡ true) ↔ Contains numbers number
