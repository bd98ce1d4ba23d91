-- Items that wait for their turn.
use Rattle.std.specs.Prelude.{ℕ, ◌≡◌, ◌≤◌, ◌⊎◌, List, [], ◌∷◌, ◌++◌, map, replicate, length, Option, Some, None, Bool, true, false}
use Rattle.std.specs.List.{filter_map, sum_by}
use Rattle.backlog.specs.declared.backlog.Turn.{Turn}
use Rattle.backlog.specs.declared.backlog.Turn.TheVariants.{Item, Lost, Nothing}

-- what waits, in order: the items, and `None` for each item that was lost
abbrev pub turns_of : {T : Type 0} → List T → ℕ → List (Option T)
turns_of items lost = map Some items ++ replicate lost None

-- the items that wait as themselves, in order
abbrev pub items_not_lost : {T : Type 0} → List (Option T) → List T
items_not_lost all = filter_map (λ item. item) all

-- at most 4,096 items wait as themselves, and they weigh at most 2,097,152
pub record IsBounded {T : Type 0} (weight : T → ℕ) (all : List (Option T)) : Type 0 where
  pub few : length (items_not_lost all) ≤ 4096
  pub light : sum_by weight (items_not_lost all) ≤ 2097152

-- private: the items are within the bounds, and this is their weight
pub record IsWithin {T : Type 0} (weight : T → ℕ) (items : List T) (total : ℕ) : Type 0 where
  pub few : length items ≤ 4096
  pub light : total ≤ 2097152
  pub counted : total ≡ sum_by weight items

-- an item waits after all others, as itself or as one that is lost; only if 2^64 - 1 wait already
-- may one be lost that doesn't wait
abbrev pub Puts : {T : Type 0} → List (Option T) → T → List (Option T) → Type 0
Puts old item new = (new ≡ old ++ Some item ∷ []) ⊎ ((new ≡ old ++ None ∷ []) ⊎ ((18446744073709551615 ≤ length old) × (new ≡ old)))

-- an item that was lost waits after all others; only if 2^64 - 1 wait already may it not wait
abbrev pub PutsLost : {T : Type 0} → List (Option T) → List (Option T) → Type 0
PutsLost old new = (new ≡ old ++ None ∷ []) ⊎ ((18446744073709551615 ≤ length old) × (new ≡ old))

-- whether nothing waits
abbrev pub is_none_left : {T : Type 0} → List (Option T) → Bool
is_none_left [] = true
is_none_left (item ∷ rest) = false

-- the first one that waits, if it wasn't lost
abbrev pub first_of : {T : Type 0} → List (Option T) → Option T
first_of [] = None
first_of (item ∷ rest) = item

-- the first one that waits has its turn
abbrev pub Takes : {T : Type 0} → List (Option T) → Turn T → List (Option T) → Type 0
Takes old (Item item) new = old ≡ Some item ∷ new
Takes old Lost new = old ≡ None ∷ new
Takes old Nothing new = (old ≡ []) × (new ≡ [])

-- the first one that waits was lost
abbrev pub is_lost_next : {T : Type 0} → List (Option T) → Bool
is_lost_next [] = false
is_lost_next (None ∷ rest) = true
is_lost_next (Some item ∷ rest) = false

-- all that were lost and come next have their turn, that many
pub record TakesLost {T : Type 0} (old : List (Option T)) (count : ℕ) (new : List (Option T)) : Type 0 where
  pub taken : old ≡ replicate count None ++ new
  pub all : is_lost_next new ≡ false
