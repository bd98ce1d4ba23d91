-- Private: the choice of the next member of a cluster, in terms of the candidates.
use Rattle.std.specs.Prelude.{ℕ, ◌≡◌, ◌<◌, Bool, false, Option, length}
use Rattle.ble_cluster.specs.declared.candidates.Candidates.{Candidates}
use Rattle.ble_cluster.specs.Choosing.{IsBest, IsFirst, SharesNet, is_candidate}

-- the BLE is free, and may be added to the members
abbrev pub may_take : Candidates → ℕ → Bool
may_take candidates number = is_candidate candidates.arch.now candidates.elements.now.elements candidates.is_taken.now candidates.growth.now.members.items number

-- none of the BLEs before `first` may be added, and `last` is the number of all BLEs
pub record AreLeft (candidates : Candidates) (first last : ℕ) : Type 0 where
  pub end : last ≡ length candidates.elements.now.elements
  pub before : (other : ℕ) → other < first → may_take candidates other ≡ false

-- the best of those that share a net with the members and may be added, if there is one
abbrev pub IsBestSharing : Candidates → Option ℕ → Type 0
IsBestSharing candidates best =
    IsBest candidates.arch.now candidates.elements.now.elements candidates.is_taken.now candidates.growth.now.members.items candidates.growth.now.gains
    (SharesNet candidates.elements.now.elements candidates.growth.now.gains) best

-- the least of those that may be added, if there is one
abbrev pub IsFirstTaken : Candidates → Option ℕ → Type 0
IsFirstTaken candidates first = IsFirst candidates.arch.now candidates.elements.now.elements candidates.is_taken.now candidates.growth.now.members.items first
