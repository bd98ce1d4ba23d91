-- What is known of the places before a sink.
use Rattle.std.specs.Prelude.{◌≡◌, ℕ, ◌+◌, ◌*◌, ◌<◌, ◌≤◌, List, length, slice_index}
use Rattle.fabric_planes.specs.Prelude.{Node, Basis, graph_of}
use Rattle.fabric_planes.specs.Differences.{IsPinPlace}
use Rattle.fabric_planes.specs.Distances.{wires_apart}
use Rattle.fabric_planes.specs.Laid.{IsWireOf}
use Rattle.fabric_planes.specs.Layout.{in_column, place_count}
use Rattle.fabric_planes.specs.Sides.{IsAtSide, IsBySide, AreSideBounds}
use Rattle.fabric_planes.specs.Ways.{IsWireAt}

-- for each place of a wire at most the distances from the wires at the sides of the sink's block or
-- pad, and for each place of a pin 0
pub record AreAheads (basis : Basis) (sink : Node) (aheads : List ℕ) : Type 0 where
  pub long : length aheads ≡ place_count basis
  pub wires : (place number side last : ℕ) → IsWireOf basis place number → IsWireAt basis last
      → IsAtSide sink side ((graph_of basis).node last).kind ((graph_of basis).node last).x ((graph_of basis).node last).y
      → slice_index aheads place ≤ wires_apart ((graph_of basis).node number) ((graph_of basis).node last)
  pub none : (x offset : ℕ) → IsPinPlace basis x offset → slice_index aheads (in_column basis x offset) ≡ 0

-- for each place of a wire at most the distance from a wire at this side of the sink's block or pad
pub record AreFars (basis : Basis) (sink : Node) (side : ℕ) (fars : List ℕ) : Type 0 where
  pub long : length fars ≡ place_count basis
  pub wires : (place number last : ℕ) → IsWireOf basis place number → IsWireAt basis last
      → IsAtSide sink side ((graph_of basis).node last).kind ((graph_of basis).node last).x ((graph_of basis).node last).y
      → slice_index fars place ≤ wires_apart ((graph_of basis).node number) ((graph_of basis).node last)

-- the wire at a side's place is at that side, and at no other place
pub record AreSides (basis : Basis) (sink : Node) (sides : List ℕ) : Type 0 where
  pub four : length sides ≡ 4
  pub is_at : (side place number : ℕ) → IsWireOf basis place number → side < 4 → slice_index sides side ≡ place
      → IsAtSide sink side ((graph_of basis).node number).kind ((graph_of basis).node number).x ((graph_of basis).node number).y
  pub all : (side place number : ℕ) → IsWireOf basis place number
      → IsAtSide sink side ((graph_of basis).node number).kind ((graph_of basis).node number).x ((graph_of basis).node number).y → slice_index sides side ≡ place
  pub no_pin : (side x offset : ℕ) → side < 4 → IsPinPlace basis x offset → slice_index sides side ≡ in_column basis x offset → ⊥

-- for each track the least bound of a last wire and a pin, and no more than any
pub record AreLeast (tracks : ℕ) (lasts least : List ℕ) : Type 0 where
  pub long : length least ≡ tracks
  pub low : (side track : ℕ) → side < 4 → track < tracks → slice_index least track ≤ slice_index lasts (side * tracks + track)

-- the bounds of pins by side, and those of last wires by side and track
abbrev pub HaveBounds : Basis → (ℕ → ℕ) → Node → List ℕ → List ℕ → Type 0
HaveBounds basis cost sink pins lasts = AreSideBounds basis cost sink (λ side. slice_index pins side) (λ side track. slice_index lasts (side * basis.arch.tracks + track))

-- Each way from the wire of the track at the place costs at least this much, if it ends by a side.
-- The bounds of the last wires are in one list, side by side.
abbrev pub IsLeastBySide : Basis → Node → List ℕ → List ℕ → ℕ → ℕ → ℕ → Type 0
IsLeastBySide basis sink pins lasts track place least =
    (number sum : ℕ) → IsWireOf basis place number → ((graph_of basis).node number).n ≡ track
    → IsBySide basis number sink (λ side. slice_index pins side) (λ side track. slice_index lasts (side * basis.arch.tracks + track)) sum → least ≤ sum
