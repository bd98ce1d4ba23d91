-- Private: the distances of points from the sides of a field that is larger than any strip.
use Rattle.std.specs.Prelude.{ℕ, ◌+◌, ◌-◌, max, min}
use Rattle.strip_place.specs.Points.{Point}
use Rattle.strip_place.specs.declared.sides.Sides.{Sides}

-- the distances of a point from the four sides
abbrev pub sides_of : Point → Sides
sides_of point = record { left = point.x; right = 65535 - point.x; bottom = point.y; top = 65535 - point.y }

-- at each side, the nearer and the farther of two
abbrev pub nearer_sides : Sides → Sides → Sides
nearer_sides a b = record { left = min a.left b.left; right = min a.right b.right; bottom = min a.bottom b.bottom; top = min a.top b.top }

abbrev pub farther_sides : Sides → Sides → Sides
farther_sides a b = record { left = max a.left b.left; right = max a.right b.right; bottom = max a.bottom b.bottom; top = max a.top b.top }

abbrev pub sum_of : Sides → ℕ
sum_of sides = sides.left + sides.right + sides.bottom + sides.top
