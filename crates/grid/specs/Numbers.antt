-- Private: the number of a place, computed by arithmetic.
use Rattle.std.specs.Prelude.{ℕ, ◌+◌, ◌-◌, ◌*◌, ◌==◌, if◌then◌else◌}
use Rattle.grid.specs.declared.Strip.{Strip}
use Rattle.grid.specs.declared.place.Kind.{Kind}
use Rattle.grid.specs.declared.place.Kind.TheVariants.{Logic, Pad}
use Rattle.grid.specs.declared.place.Place.{Place}
use Rattle.grid.specs.Places.{column_len}

-- the number of a place in its column
abbrev pub number_in_column : Strip → Kind → Place → ℕ
number_in_column strip Logic place = place.y - 1
number_in_column strip Pad place = if place.y == 0 then place.subblock else strip.io_rat + place.subblock

-- the number of a place among all of its kind
abbrev pub number_of : Strip → Kind → Place → ℕ
number_of strip kind place = (place.x - 1) * column_len strip kind + number_in_column strip kind place
