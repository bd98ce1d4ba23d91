-- Private: rows of numbers in one list, each of which ends where the next begins.
use Rattle.std.specs.Prelude.{ℕ, ◌≡◌, ◌+◌, ◌-◌, ◌*◌, ◌<◌, ◌≤◌, ◌^◌, List, length, map, take, drop, slice_index}
use Rattle.std.specs.List.{range_with_len}
use Rattle.strip_place.specs.Nets.{net_at}

-- the row with this number: from its bound to the next
abbrev pub row_at : List ℕ → List ℕ → ℕ → List ℕ
row_at numbers bounds number = take (slice_index bounds (number + 1) - slice_index bounds number) (drop (slice_index bounds number) numbers)

abbrev pub rows_of : List ℕ → List ℕ → List (List ℕ)
rows_of numbers bounds = map (row_at numbers bounds) (range_with_len 0 (length bounds - 1))

-- the bounds are in order, and within a list of this length
abbrev pub AreBounds : ℕ → List ℕ → Type 0
AreBounds count bounds = (number : ℕ) → number + 1 < length bounds → (slice_index bounds number ≤ slice_index bounds (number + 1)) × (slice_index bounds (number + 1) ≤ count)

-- the rows are few and short, so that their bounds fit 32 bits
pub record AreSmall (rows : List (List ℕ)) : Type 0 where
  pub few : length rows < 2 ^ 16
  pub short : (number : ℕ) → number < length rows → length (net_at rows number) ≤ 65536

-- the first `count` rows are in the list, with their bounds
pub record AreCopied (rows : List (List ℕ)) (count : ℕ) (numbers bounds : List ℕ) : Type 0 where
  pub long : length bounds ≡ count + 1
  pub end : slice_index bounds count ≡ length numbers
  pub small : length numbers ≤ 65536 * count
  pub within : AreBounds (length numbers) bounds
  pub each : (number : ℕ) → number < count → row_at numbers bounds number ≡ net_at rows number
