-- Private: rows of bounds, as they are made.
use Rattle.std.specs.Prelude.{ℕ, ◌+◌, ◌*◌, ◌<◌, ◌≤◌, min, List, [], ◌∷◌, slice_index}
use Rattle.fabric_planes.specs.declared.bound_rows.FarSides.{FarSides}

-- no distance is above 255
pub record AreFarSides (far : FarSides) : Type 0 where
  pub top : far.top ≤ 255
  pub bottom : far.bottom ≤ 255
  pub right : far.right ≤ 255
  pub left : far.left ≤ 255

-- the distances by the numbers of the sides
abbrev pub far_list : FarSides → List ℕ
far_list far = far.top ∷ far.bottom ∷ far.right ∷ far.left ∷ []

-- for each of the first tracks no more than the sum over any side
abbrev pub IsFarRow : List ℕ → List ℕ → List ℕ → FarSides → ℕ → ℕ → ℕ → List ℕ → Type 0
IsFarRow costs apart lasts far more tracks count row = (track : ℕ) → track < count → (side : ℕ) → side < 4
    → slice_index row track ≤ slice_index lasts (side * tracks + track) + slice_index (far_list far) side + (slice_index costs track + (slice_index apart track + more))

-- for each of the first tracks the sum at the side itself
abbrev pub IsNearRow : List ℕ → List ℕ → List ℕ → ℕ → ℕ → ℕ → List ℕ → Type 0
IsNearRow costs apart leasts pin more count row = (track : ℕ) → track < count
    → slice_index row track ≤ min pin (slice_index leasts track) + 1 + (slice_index costs track + (slice_index apart track + more))
