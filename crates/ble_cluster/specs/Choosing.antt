-- Private: the choice of the next member of a cluster.
use Rattle.std.specs.Prelude.{ℕ, ◌≡◌, ◌<◌, ◌≤◌, ◌⊎◌, Bool, true, false, not, ◌&&◌, ◌||◌, ◌==◌, nat_lt, List, Option, None, Some, length, slice_index_or}
use Rattle.std.specs.Option.{ForSome}
use Rattle.ble_cluster.specs.Prelude.{Arch}
use Rattle.ble_cluster.specs.Bles.{LogicElement}
use Rattle.ble_cluster.specs.Clusters.{may_join}
use Rattle.ble_cluster.specs.SharedNets.{gain_at}

-- whether the BLE is taken
abbrev pub taken_at : List Bool → ℕ → Bool
taken_at taken number = slice_index_or taken number true

-- the BLE is free, and may be added to the members
abbrev pub is_candidate : Arch → List LogicElement → List Bool → List ℕ → ℕ → Bool
is_candidate arch elements taken members number = not (taken_at taken number) && may_join arch elements members number

-- the first score is greater, or equal with a number that is not greater
abbrev pub LeadsOver : (ℕ → ℕ) → ℕ → ℕ → Type 0
LeadsOver score number other = (score other < score number) ⊎ ((score other ≡ score number) × (number ≤ other))

-- the BLE shares more nets than the best so far, or equally many and has a lesser number
abbrev pub beats : List ℕ → ℕ → Option ℕ → Bool
beats gains number None = true
beats gains number (Some best) = nat_lt (gain_at gains best) (gain_at gains number) || (gain_at gains number == gain_at gains best && nat_lt number best)

-- the number of a BLE, and that of the best so far, if there is one, are within the count
pub record AreCompared (count number : ℕ) (best : Option ℕ) : Type 0 where
  pub small : number < count
  pub best_small : ForSome best (λ other. other < count)

-- a candidate that leads over all others among these
pub record IsLeader (arch : Arch) (elements : List LogicElement) (taken : List Bool) (members gains : List ℕ) (Among : ℕ → Type 0) (best : ℕ) : Type 0 where
  pub small : best < length elements
  pub candidate : is_candidate arch elements taken members best ≡ true
  pub touched : 0 < gain_at gains best
  pub leads : (other : ℕ) → Among other → is_candidate arch elements taken members other ≡ true → LeadsOver (gain_at gains) best other

-- the best of the candidates among these, if there is one
abbrev pub IsBest : Arch → List LogicElement → List Bool → List ℕ → List ℕ → (ℕ → Type 0) → Option ℕ → Type 0
IsBest arch elements taken members gains Among None = (other : ℕ) → Among other → is_candidate arch elements taken members other ≡ false
IsBest arch elements taken members gains Among (Some best) = IsLeader arch elements taken members gains Among best

-- the BLE shares a net with the members
pub record SharesNet (elements : List LogicElement) (gains : List ℕ) (number : ℕ) : Type 0 where
  pub small : number < length elements
  pub shares : 0 < gain_at gains number

-- the least candidate, if there is one
pub record IsLeast (arch : Arch) (elements : List LogicElement) (taken : List Bool) (members : List ℕ) (number : ℕ) : Type 0 where
  pub small : number < length elements
  pub candidate : is_candidate arch elements taken members number ≡ true
  pub least : (other : ℕ) → other < number → is_candidate arch elements taken members other ≡ false

abbrev pub IsFirst : Arch → List LogicElement → List Bool → List ℕ → Option ℕ → Type 0
IsFirst arch elements taken members None = (other : ℕ) → other < length elements → is_candidate arch elements taken members other ≡ false
IsFirst arch elements taken members (Some number) = IsLeast arch elements taken members number
