-- The columns of the device, counted from 1: which are used, and which are guard columns.
use Rattle.std.specs.Prelude.{ℕ, ◌≡◌, ◌+◌, List, Bool, not, ◌&&◌, ◌||◌, ◌==◌, nat_lt, nat_le, count_by}
use Rattle.std.specs.List.{list_any, range_with_len}
use Rattle.strips.specs.declared.placed_strip.PlacedStrip.{PlacedStrip}
use Rattle.device_report.specs.declared.columns.ColumnUse.{ColumnUse}

-- a column is one of the strip's
abbrev pub is_in : ℕ → PlacedStrip → Bool
is_in column strip = nat_lt strip.offset column && nat_le column (strip.offset + strip.width)

-- a column is right beside the strip
abbrev pub is_beside : ℕ → PlacedStrip → Bool
is_beside column strip = (column == strip.offset) || (column == strip.offset + strip.width + 1)

-- a column is one of a strip's
abbrev pub is_used : List PlacedStrip → ℕ → Bool
is_used strips column = list_any (is_in column) strips

-- a column is right beside a strip
abbrev pub is_beside_any : List PlacedStrip → ℕ → Bool
is_beside_any strips column = list_any (is_beside column) strips

-- an unused column beside a strip, which stays unused as long as the strip is there
abbrev pub is_guard : List PlacedStrip → ℕ → Bool
is_guard strips column = is_beside_any strips column && not (is_used strips column)

-- an unused column that isn't beside a strip
abbrev pub is_free : List PlacedStrip → ℕ → Bool
is_free strips column = not (is_beside_any strips column) && not (is_used strips column)

-- the number of the device's columns that pass the test
abbrev pub columns_that : ℕ → (ℕ → Bool) → ℕ
columns_that columns test = count_by test (range_with_len 1 columns)

-- the numbers of a device's used columns, guard columns, and free columns
pub record IsColumnUse (columns : ℕ) (strips : List PlacedStrip) (counts : ColumnUse) : Type 0 where
  pub used : counts.used ≡ columns_that columns (is_used strips)
  pub guard : counts.guard ≡ columns_that columns (is_guard strips)
  pub free : counts.free ≡ columns_that columns (is_free strips)
