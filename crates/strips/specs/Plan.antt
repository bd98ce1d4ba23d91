-- The offsets of the strips on a device.
use Rattle.std.specs.Prelude.{ℕ, ◌≢◌, ◌+◌, ◌^◌, ◌<◌, ◌≤◌, ◌⊎◌, List, [], ◌∷◌, ◌++◌, length, filter, map, if◌then◌else◌, ◌≡◌, Result, Ok, Err, All, AllPairs, Bool, not, ◌||◌, ◌==◌, nat_lt, Option, Some, None, option_map, find}
use Rattle.strips.specs.declared.placed_strip.PlacedStrip.{PlacedStrip}
use Rattle.strips.specs.declared.layout.NoRoom.{NoRoom}
use Rattle.strips.specs.declared.layout.TheConstants.{MAX_STRIPS}

-- a device of `columns` columns, and the strips on it
pub record Plan : Type 0 where
  pub columns : ℕ
  pub strips : List PlacedStrip

-- a column lies unused between the end of one and the beginning of the other
abbrev pub AreApart : PlacedStrip → PlacedStrip → Type 0
AreApart s t = (s.offset + s.width + 1 ≤ t.offset) ⊎ (t.offset + t.width + 1 ≤ s.offset)

-- the strips are separated: each is within the device, and at least one column between any two is
-- unused
pub record IsParted (plan : Plan) : Type 0 where
  pub inside : All (λ s. s.offset + s.width ≤ plan.columns) plan.strips
  pub apart : AllPairs AreApart plan.strips

-- the plan with one more strip
abbrev pub with_strip : Plan → PlacedStrip → Plan
with_strip plan strip = record plan { strips = plan.strips ++ strip ∷ [] }

-- a strip of that width fits at that offset: with it, whatever its id, the strips are separated
pub record FitsAt (plan : Plan) (width offset : ℕ) : Type 0 where
  pub wide : 0 < width
  pub parted : IsParted (record plan { strips = plan.strips ++ record { id = 0; offset = offset; width = width } ∷ [] })

-- the least offset at which it fits; `None` if it fits nowhere
abbrev pub IsFirstFit : Plan → ℕ → Option ℕ → Type 0
IsFirstFit plan width (Some offset) = FitsAt plan width offset × ((lower : ℕ) → lower < offset → FitsAt plan width lower → ⊥)
IsFirstFit plan width None = (offset : ℕ) → FitsAt plan width offset → ⊥

-- the strip with that id
abbrev pub strip_of : List PlacedStrip → ℕ → Option PlacedStrip
strip_of strips id = find (λ strip. strip.id == id) strips

-- the offset of the strip with that id
abbrev pub offset_of : List PlacedStrip → ℕ → Option ℕ
offset_of strips id = option_map (λ strip. strip.offset) (strip_of strips id)

-- the strips without the one with that id
abbrev pub strips_without : List PlacedStrip → ℕ → List PlacedStrip
strips_without strips id = filter (λ strip. not (strip.id == id)) strips

-- at most MAX_STRIPS strips, separated, none of width 0, and no two with the same id
pub record IsLaidOut (plan : Plan) : Type 0 where
  pub few : length plan.strips ≤ MAX_STRIPS
  pub wide : All (λ s. 0 < s.width) plan.strips
  pub parted : IsParted plan
  pub distinct : AllPairs (λ s t. s.id ≢ t.id) plan.strips

-- there is space for one more strip, and its id is new
pub record HasRoomFor (plan : Plan) (strip : PlacedStrip) : Type 0 where
  pub few : length plan.strips < MAX_STRIPS
  pub fits : FitsAt plan strip.width strip.offset
  pub new : offset_of plan.strips strip.id ≡ None

-- private: no strip reaches beyond 32 bits
pub record AreNear (strips : List PlacedStrip) (strip : PlacedStrip) : Type 0 where
  pub small : strip.offset + strip.width < 2 ^ 32
  pub inside : All (λ s. s.offset + s.width < 2 ^ 32) strips

-- no strip of that width fits on that device, even if it is empty
abbrev pub is_bad_width : Plan → ℕ → Bool
is_bad_width plan width = width == 0 || nat_lt plan.columns width

-- the strip at that offset if it has that id; any other strip unchanged
abbrev pub moved_strip : ℕ → ℕ → PlacedStrip → PlacedStrip
moved_strip id offset strip = if strip.id == id then record strip { offset = offset } else strip

-- the plan with the strip of that id at that offset
abbrev pub with_moved : Plan → ℕ → ℕ → Plan
with_moved plan id offset = record plan { strips = map (moved_strip id offset) plan.strips }

-- a strip moves exactly if the strips are separated afterwards; the columns that it leaves don't
-- count as taken
abbrev pub Moves : Plan → ℕ → ℕ → Result (Unit {0}) NoRoom → Plan → Type 0
Moves old id offset (Ok u) new = IsParted (with_moved old id offset) × (new ≡ with_moved old id offset)
Moves old id offset (Err refusal) new = (IsParted (with_moved old id offset) → ⊥) × (new ≡ old)
