-- The gaps of a device: free columns side by side. A column is free if it is unused and not beside
-- a strip.
use Rattle.std.specs.Prelude.{ℕ, ◌+◌, ◌-◌, List, length, map, filter, ◌||◌, ◌==◌, not, Bool, nat_lt, if◌then◌else◌}
use Rattle.std.specs.List.{range_with_len, take_while}
use Rattle.strips.specs.declared.placed_strip.PlacedStrip.{PlacedStrip}
use Rattle.device_report.specs.Columns.{is_free}
use Rattle.device_report.specs.declared.widest.Room.{Room}

-- no free column is left of the column after that offset
abbrev pub begins : List PlacedStrip → ℕ → Bool
begins strips offset = (offset == 0) || not (is_free strips offset)

-- the number of free columns side by side from there on
abbrev pub free_from : ℕ → List PlacedStrip → ℕ → ℕ
free_from columns strips offset = length (take_while (is_free strips) (range_with_len (offset + 1) (columns - offset)))

-- the gap that begins after that offset; of width 0 if none does
abbrev pub gap_at : ℕ → List PlacedStrip → ℕ → Room
gap_at columns strips offset = record { offset = offset; width = if begins strips offset then free_from columns strips offset else 0 }

-- the gaps, from left to right
abbrev pub gaps_of : ℕ → List PlacedStrip → List Room
gaps_of columns strips = filter (λ gap. nat_lt 0 gap.width) (map (gap_at columns strips) (range_with_len 0 columns))
