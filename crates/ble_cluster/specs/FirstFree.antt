-- Private: the least free number whose key is within a bound.
use Rattle.std.specs.Prelude.{ℕ, ◌≡◌, ◌+◌, ◌<◌, ◌≤◌, ◌⊎◌, Bool, true, false, not, ◌==◌, List, All, Option, None, Some, length, filter, slice_index_or}
use Rattle.ble_cluster.specs.Prelude.{MAX_NETS}
use Rattle.ble_cluster.specs.declared.first_free.FirstFree.{FirstFree}
use Rattle.ble_cluster.specs.Bles.{LogicElement, element_at}
use Rattle.ble_cluster.specs.Choosing.{taken_at}
use Rattle.ble_cluster.specs.Clusters.{input_count_at}

-- the key of the number
abbrev pub key_at : List ℕ → ℕ → ℕ
key_at keys number = slice_index_or keys number 0

-- each free number below the end has a key above the bound
abbrev pub AreAbove : List Bool → List ℕ → ℕ → ℕ → Type 0
AreAbove taken keys bound end = (number : ℕ) → number < end → taken_at taken number ≡ false → bound < key_at keys number

-- every number has a mark, and the free numbers below the end have keys above the bound
pub record ArePassed (taken : List Bool) (keys : List ℕ) (bound end : ℕ) : Type 0 where
  pub marks : length taken ≡ length keys
  pub before : AreAbove taken keys bound end

-- the least free number whose key is within the bound
pub record IsLeastWithin (taken : List Bool) (keys : List ℕ) (bound number : ℕ) : Type 0 where
  pub small : number < length keys
  pub free : taken_at taken number ≡ false
  pub within : key_at keys number ≤ bound
  pub least : AreAbove taken keys bound number

-- the least free number whose key is within the bound, if there is one
abbrev pub IsFirstWithin : List Bool → List ℕ → ℕ → Option ℕ → Type 0
IsFirstWithin taken keys bound None = AreAbove taken keys bound (length keys)
IsFirstWithin taken keys bound (Some number) = IsLeastWithin taken keys bound number

-- no free number has a lesser key, or an equal key and a lesser number
pub record IsLowestAt (taken : List Bool) (keys : List ℕ) (number : ℕ) : Type 0 where
  pub small : number < length keys
  pub free : taken_at taken number ≡ false
  pub least : (other : ℕ) → other < length keys → taken_at taken other ≡ false → (key_at keys number < key_at keys other) ⊎ ((key_at keys number ≡ key_at keys other) × (number ≤ other))

-- the free number with the lowest key, if there is one; of several, the least
abbrev pub IsLowest : List Bool → List ℕ → Option ℕ → Type 0
IsLowest taken keys None = (number : ℕ) → number < length keys → taken_at taken number ≡ true
IsLowest taken keys (Some number) = IsLowestAt taken keys number

-- every number has a mark, the keys are below the number of bounds, and for each bound no free
-- number before its start has a key within the bound
pub record IsFirstFree (taken : List Bool) (index : FirstFree) : Type 0 where
  pub marks : length taken ≡ length index.keys.items
  pub some : 0 < length index.firsts.items
  pub bounds : All (λ key. key < length index.firsts.items) index.keys.items
  pub passed : (bound : ℕ) → bound < length index.firsts.items → AreAbove taken index.keys.items bound (slice_index_or index.firsts.items bound 0)

-- no key is greater than this one, which is itself at most 8,192
pub record AreKeysUpTo (keys : List ℕ) (most : ℕ) : Type 0 where
  pub each : All (λ key. key ≤ most) keys
  pub few : most ≤ MAX_NETS

-- no BLE has more inputs than this number, which is itself at most 8,192
pub record HaveAtMost (elements : List LogicElement) (most : ℕ) : Type 0 where
  pub each : (number : ℕ) → number < length elements → input_count_at elements number ≤ most
  pub few : most ≤ MAX_NETS

-- each key is the largest number of inputs minus the number of the BLE's inputs
pub record AreLacks (elements : List LogicElement) (keys : List ℕ) : Type 0 where
  pub most : ℕ
  pub count : length keys ≡ length elements
  pub sum : (number : ℕ) → number < length elements → key_at keys number + input_count_at elements number ≡ most

-- the nets that the BLE reads and doesn't drive
abbrev pub own_outside : LogicElement → List ℕ
own_outside element = filter (λ net. not (net == element.output)) element.inputs

-- each key is the number of nets that the BLE reads and doesn't drive
pub record AreOutsideCounts (elements : List LogicElement) (keys : List ℕ) : Type 0 where
  pub count : length keys ≡ length elements
  pub counted : (number : ℕ) → number < length elements → key_at keys number ≡ length (own_outside (element_at elements number))

-- the index finds free BLEs, of which there are at most 8,192, by the number of nets that they read
-- from outside
pub record AreByOutside (bles : List LogicElement) (marks : List Bool) (index : FirstFree) : Type 0 where
  pub few : length bles ≤ MAX_NETS
  pub taken : length marks ≡ length bles
  pub counts : AreOutsideCounts bles index.keys.items
  pub free : IsFirstFree marks index

-- whichever of this many numbers are taken, the index is correct
abbrev pub IsFirstOf : ℕ → FirstFree → Type 0
IsFirstOf count index = (taken : List Bool) → length taken ≡ count → IsFirstFree taken index

-- whatever is taken, the indices find the BLEs by the largest number of inputs minus their own, and
-- by the number of nets that they read from outside
pub record AreFound (bles : List LogicElement) (lacking reading : FirstFree) : Type 0 where
  pub lacks : AreLacks bles lacking.keys.items
  pub outside : AreOutsideCounts bles reading.keys.items
  pub by_lack : IsFirstOf (length bles) lacking
  pub by_outside : IsFirstOf (length bles) reading

-- every number that was taken is still taken
pub record IsKept (old new : List Bool) : Type 0 where
  pub count : length new ≡ length old
  pub kept : (number : ℕ) → taken_at old number ≡ true → taken_at new number ≡ true
