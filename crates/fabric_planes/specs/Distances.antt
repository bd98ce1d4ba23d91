-- How many wires a way from one wire to another has at least.
use Rattle.std.specs.Prelude.{ℕ, ◌+◌, ◌-◌, ◌==◌, ◌&&◌, Bool, if◌then◌else◌}
use Rattle.fabric_planes.specs.Prelude.{NodeKind, ChanX, ChanY, Node, rank_of}

-- The points at which a wire ends: a horizontal one from the point to the left of its column to the
-- one to the right of it, a vertical one from the point below its row to the one above it.
abbrev pub west_of : NodeKind → ℕ → ℕ
west_of ChanY x = x + 1
west_of _ x = x

abbrev pub east_of : ℕ → ℕ
east_of x = x + 1

abbrev pub south_of : NodeKind → ℕ → ℕ
south_of ChanX y = y + 1
south_of _ y = y

abbrev pub north_of : ℕ → ℕ
north_of y = y + 1

-- the distance of a wire's nearest end from a box
abbrev pub apart_from : NodeKind → ℕ → ℕ → ℕ → ℕ → ℕ → ℕ → ℕ
apart_from kind x y west east south north = (west - east_of x) + (west_of kind x - east) + ((south - north_of y) + (south_of kind y - north))

-- the distance of the nearest ends of two wires
abbrev pub ends_apart : NodeKind → ℕ → ℕ → NodeKind → ℕ → ℕ → ℕ
ends_apart ka xa ya kb xb yb = apart_from ka xa ya (west_of kb xb) (east_of xb) (south_of kb yb) (north_of yb)

abbrev pub is_same_wire : NodeKind → ℕ → ℕ → NodeKind → ℕ → ℕ → Bool
is_same_wire ka xa ya kb xb yb = (rank_of ka == rank_of kb) && ((xa == xb) && (ya == yb))

-- the least number of wires on a way from one wire to another of its track, without the first
abbrev pub wires_by : NodeKind → ℕ → ℕ → NodeKind → ℕ → ℕ → ℕ
wires_by ka xa ya kb xb yb = if is_same_wire ka xa ya kb xb yb then 0 else 1 + ends_apart ka xa ya kb xb yb

abbrev pub wires_apart : Node → Node → ℕ
wires_apart a b = wires_by a.kind a.x a.y b.kind b.x b.y
