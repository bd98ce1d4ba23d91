-- Private: the longest ways that were found.
use Rattle.std.specs.Prelude.{ℕ, ◌≡◌, ◌+◌, ◌<◌, ◌≤◌, List, length, slice_index_or}
use Rattle.blif.specs.LookupTables.{LookupTable}
use Rattle.longest_path.specs.declared.reach.Reach.{Reach}
use Rattle.longest_path.specs.Paths.{IsIn, IsWay}

-- a net without a way
abbrev pub none : Reach
none = record { steps = 0; start = 0 }

-- what was found for a net, and the number of its steps
abbrev pub reach_of : List Reach → ℕ → Reach
reach_of reach net = slice_index_or reach net none

abbrev pub steps_to : List Reach → ℕ → ℕ
steps_to reach net = (reach_of reach net).steps

-- only the starts are reached, by ways without tables
pub record IsBegun (nets : ℕ) (starts : List ℕ) (reach : List Reach) : Type 0 where
  pub long : length reach ≡ nets
  pub started : (net : ℕ) → IsIn starts net → steps_to reach net ≡ 1
  pub only : (net : ℕ) → 0 < steps_to reach net → IsIn starts net × (steps_to reach net ≡ 1) × ((reach_of reach net).start ≡ net)

-- none of the nets is reached
abbrev pub AreUnreached : List Reach → List ℕ → Type 0
AreUnreached reach nets = (k : ℕ) → k < length nets → steps_to reach (slice_index_or nets k 0) ≡ 0

-- the net is one of these and reached, and no other is farther
pub record IsFarthest (reach : List Reach) (nets : List ℕ) (net : ℕ) : Type 0 where
  pub among : IsIn nets net
  pub reached : 0 < steps_to reach net
  pub most : (k : ℕ) → k < length nets → steps_to reach (slice_index_or nets k 0) ≤ steps_to reach net

-- a way with that number of steps leads from a start to the net
abbrev pub IsFound : List LookupTable → List ℕ → ℕ → Reach → Type 0
IsFound tables starts net one =
    IsIn starts one.start × ((through : List LookupTable) × IsWay tables one.start through net × (length through + 1 ≡ one.steps))

-- each net that is reached is reached by such a way
abbrev pub AreFound : List LookupTable → List ℕ → List Reach → Type 0
AreFound tables starts reach = (net : ℕ) → 0 < steps_to reach net → IsFound tables starts net (reach_of reach net)

-- no way that was found has more steps than there are nets, and one
abbrev pub AreSmall : List Reach → Type 0
AreSmall reach = (net : ℕ) → steps_to reach net ≤ length reach + 1
