-- Private: tables of distances by difference of places.
use Rattle.std.specs.Prelude.{◌≡◌, ℕ, ◌+◌, ◌-◌, ◌*◌, ◌/◌, ◌%◌, ◌<◌, ◌≤◌, min, nat_le, nat_lt, List, map, if◌then◌else◌}
use Rattle.std.specs.List.{range_with_len}
use Rattle.fabric_planes.specs.Prelude.{NodeKind, ChanX, ChanY, Basis}
use Rattle.fabric_planes.specs.Layout.{band_of, level_at, upright_at, stride_of, in_column}
use Rattle.fabric_planes.specs.declared.distances.Target.{Target}
use Rattle.fabric_planes.specs.declared.distances.Target.TheVariants.{Level, Upright, Block}
use Rattle.fabric_planes.specs.Distances.{wires_by}

-- the most that a distance counts in a table
abbrev pub MOST_FAR : ℕ
MOST_FAR = 254

-- The distance of a wire from the target: a wire in a column and row, or the nearest wire of a
-- block there.
abbrev pub wires_to : Target → NodeKind → ℕ → ℕ → ℕ → ℕ → ℕ
wires_to Level kind x y column row = wires_by kind x y ChanX column row
wires_to Upright kind x y column row = wires_by kind x y ChanY column row
wires_to Block kind x y column row =
    min (min (wires_by kind x y ChanX column row) (wires_by kind x y ChanX column (row - 1)))
    (min (wires_by kind x y ChanY column row) (wires_by kind x y ChanY (column - 1) row))

-- By how many columns and by which offset places differ: the first rows are those of horizontal
-- wires, whose row is less by as many rows as a band has; those of vertical wires follow, and then
-- those of pins, to which no distance belongs.
abbrev pub far_at : Target → ℕ → ℕ → ℕ → ℕ → ℕ
far_at target columns band x y = if nat_le (4 * band) y then 0 else min MOST_FAR (if nat_lt y (2 * band) then wires_to target ChanX x y columns band else wires_to target ChanY x y columns (3 * band))

-- the number of entries
abbrev pub far_count : ℕ → ℕ → ℕ
far_count columns stride = (2 * columns + 1) * stride

-- the table of a target
abbrev pub far_table : Target → ℕ → ℕ → ℕ → List ℕ
far_table target columns band stride = map (λ at. far_at target columns band (at / stride) (at % stride)) (range_with_len 0 (far_count columns stride))

-- what is added to differences of places
abbrev pub shift_of : Target → ℕ → ℕ
shift_of Upright band = 3 * band
shift_of _ band = band

-- a block is not at the border
abbrev pub IsPlaced : Target → ℕ → ℕ → Type 0
IsPlaced Level u v = Unit {0}
IsPlaced Upright u v = Unit {0}
IsPlaced Block u v = (1 ≤ u) × (1 ≤ v)

-- the offset of a target's wires in their column
abbrev pub target_offset : Basis → Target → ℕ
target_offset basis Upright = upright_at basis
target_offset basis _ = level_at basis

-- the place of the target's wire
abbrev pub target_at : Basis → Target → ℕ → ℕ → ℕ
target_at basis target u v = in_column basis u (target_offset basis target + v)

-- the index of the entry for a place and the place of the target's wire
abbrev pub index_from : Basis → Target → ℕ → ℕ → ℕ
index_from basis target place at = place + ((basis.strip.width + 3) * stride_of basis + shift_of target (band_of basis) - at)

-- the target in this column and row is at the place
pub record IsTargetAt (basis : Basis) (target : Target) (place u v : ℕ) : Type 0 where
  pub is_at : place ≡ target_at basis target u v
  pub x : u ≤ basis.strip.width
  pub y : v ≤ basis.strip.rows + 1
  pub placed : IsPlaced target u v

-- the strip has such a column and row
abbrev pub IsTarget : Basis → Target → ℕ → ℕ → Type 0
IsTarget basis target u v = IsTargetAt basis target (target_at basis target u v) u v

-- places of pins, of a source and of a sink
pub record IsPinPlace (basis : Basis) (x offset : ℕ) : Type 0 where
  pub column : x ≤ basis.strip.width
  pub few : offset + band_of basis < level_at basis
