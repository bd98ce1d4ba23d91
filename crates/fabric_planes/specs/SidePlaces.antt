-- Private: the places at the sides of a sink's block or pad.
use Rattle.std.specs.Prelude.{ℕ, ◌+◌, ◌-◌, ◌≤◌, List, [], ◌∷◌, nat_le, if◌then◌else◌}
use Rattle.fabric_planes.specs.Prelude.{Node, Basis}
use Rattle.fabric_planes.specs.Layout.{in_column, level_at, upright_at, place_count}

-- the places of the wires above, below, to the right and to the left; where no wire can be, the
-- number of places
abbrev pub side_places : Basis → Node → List ℕ
side_places basis sink =
    in_column basis sink.x (level_at basis + sink.y)
    ∷ (if nat_le 1 sink.y then in_column basis sink.x (level_at basis + (sink.y - 1)) else place_count basis)
    ∷ in_column basis sink.x (upright_at basis + sink.y)
    ∷ (if nat_le 1 sink.x then in_column basis (sink.x - 1) (upright_at basis + sink.y) else place_count basis)
    ∷ []

-- the sink is in a column and row of the strip
pub record IsInStrip (basis : Basis) (sink : Node) : Type 0 where
  pub x : sink.x ≤ basis.strip.width
  pub y : sink.y ≤ basis.strip.rows + 1
