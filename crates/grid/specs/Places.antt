-- The places of a strip, in order.
use Rattle.std.specs.Prelude.{ℕ, ◌+◌, ◌-◌, ◌*◌, List, [], ◌∷◌, map, nat_lt, if◌then◌else◌}
use Rattle.std.specs.List.{flat_map, range_with_len}
use Rattle.grid.specs.declared.Strip.{Strip}
use Rattle.grid.specs.declared.place.Kind.{Kind}
use Rattle.grid.specs.declared.place.Kind.TheVariants.{Logic, Pad}
use Rattle.grid.specs.declared.place.Place.{Place}

abbrev pub place_at : ℕ → ℕ → ℕ → Place
place_at x y subblock = record { x = x; y = y; subblock = subblock }

-- the places of a column: for logic blocks one in each row from 1 on, for pads those below the
-- first row and then those above the last
abbrev pub column_of : Strip → Kind → ℕ → List Place
column_of strip Logic x = map (λ y. place_at x y 0) (range_with_len 1 strip.rows)
column_of strip Pad x = flat_map (λ y. map (place_at x y) (range_with_len 0 strip.io_rat)) (0 ∷ (strip.rows + 1) ∷ [])

-- the places, column by column from 1 on
unfoldable pub places_of : Strip → Kind → List Place
places_of strip kind = flat_map (column_of strip kind) (range_with_len 1 strip.width)

-- Private: the pads at an end of a column
abbrev pub pads_at : Strip → ℕ → ℕ → List Place
pads_at strip x y = map (place_at x y) (range_with_len 0 strip.io_rat)

-- Private: the number of places of a column
abbrev pub column_len : Strip → Kind → ℕ
column_len strip Logic = strip.rows
column_len strip Pad = 2 * strip.io_rat

-- Private: the place with this number in a column
abbrev pub place_in : Strip → Kind → ℕ → ℕ → Place
place_in strip Logic x number = place_at x (number + 1) 0
place_in strip Pad x number = if nat_lt number strip.io_rat then place_at x 0 number else place_at x (strip.rows + 1) (number - strip.io_rat)
