-- Private: the distances from a target.
use Rattle.std.specs.Prelude.{◌≡◌, ℕ, min, List, length, slice_index}
use Rattle.fabric_planes.specs.Prelude.{Basis, graph_of}
use Rattle.fabric_planes.specs.Differences.{MOST_FAR, IsPinPlace, wires_to}
use Rattle.fabric_planes.specs.Laid.{IsWireOf}
use Rattle.fabric_planes.specs.Layout.{in_column, place_count}
use Rattle.fabric_planes.specs.declared.distances.Target.{Target}

-- for each place of a wire the distance from a target in this column and row, and for each place of
-- a pin 0
pub record AreFar (basis : Basis) (target : Target) (u v : ℕ) (table : List ℕ) : Type 0 where
  pub long : length table ≡ place_count basis
  pub far : (from number : ℕ) → IsWireOf basis from number
      → slice_index table from ≡ min MOST_FAR (wires_to target ((graph_of basis).node number).kind ((graph_of basis).node number).x ((graph_of basis).node number).y u v)
  pub none : (x offset : ℕ) → IsPinPlace basis x offset → slice_index table (in_column basis x offset) ≡ 0
