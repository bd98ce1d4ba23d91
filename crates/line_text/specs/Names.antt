-- Different names in the order in which they first appear, as lists of bytes.
use Rattle.std.specs.Prelude.{ℕ, Bool, List, [], ◌∷◌, ◌++◌, if◌then◌else◌}
use Rattle.std.specs.List.{list_any, position_or_len}
use Rattle.std.specs.Str.{bytes_eq}

-- whether the name is among the names
abbrev pub has_name : List (List ℕ) → List ℕ → Bool
has_name names name = list_any (bytes_eq name) names

-- the number of the name: the first index at which it appears, or the number of names if it doesn't
-- appear
abbrev pub number_of : List (List ℕ) → List ℕ → ℕ
number_of names name = position_or_len (bytes_eq name) names

-- the names, with the name appended if it is new
abbrev pub with_name : List (List ℕ) → List ℕ → List (List ℕ)
with_name names name = if has_name names name then names else names ++ name ∷ []

-- the names, with each new name of the others appended in order
abbrev pub with_names : List (List ℕ) → List (List ℕ) → List (List ℕ)
with_names names [] = names
with_names names (name ∷ others) = with_names (with_name names name) others
