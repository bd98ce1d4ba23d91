-- The sides of a sink's block or pad, and lower bounds of ways that end there.
use Rattle.std.specs.Prelude.{◌≡◌, ℕ, zero, suc, ◌+◌, ◌<◌, ◌≤◌, ◌⊎◌, ◌==◌, nat_lt, Bool, true, false, List, [], ◌∷◌, Option, Some, None, Contains, sum_by, if◌then◌else◌}
use Rattle.fabric_planes.specs.Prelude.{Sides, NodeKind, Sink, Opin, Ipin, ChanX, ChanY, Node, sides_at, is_together, Basis, graph_of}
use Rattle.fabric_planes.specs.Distances.{wires_apart}
use Rattle.fabric_planes.specs.Ways.{IsWireAt}

-- sides by number: above, below, to the right, to the left
abbrev pub is_on_side : Sides → ℕ → Bool
is_on_side sides zero = sides.top
is_on_side sides (suc zero) = sides.bottom
is_on_side sides (suc (suc zero)) = sides.right
is_on_side sides (suc (suc (suc zero))) = sides.left
is_on_side sides (suc (suc (suc (suc more)))) = false

-- the wires above and below are horizontal ones, the wire below is one row less, and the wire to
-- the left one column less
abbrev pub side_kind : ℕ → NodeKind
side_kind side = if nat_lt side 2 then ChanX else ChanY

abbrev pub rows_less : ℕ → ℕ
rows_less side = if side == 1 then 1 else 0

abbrev pub columns_less : ℕ → ℕ
columns_less side = if side == 3 then 1 else 0

-- the wire runs along this side of the block or pad
pub record IsAtSide (sink : Node) (side : ℕ) (kind : NodeKind) (x y : ℕ) : Type 0 where
  pub few : side < 4
  pub kind_is : kind ≡ side_kind side
  pub column : x + columns_less side ≡ sink.x
  pub row : y + rows_less side ≡ sink.y

-- an input pin of the sink's block or pad
pub record IsOwnPin (basis : Basis) (sink : Node) (pin : ℕ) : Type 0 where
  pub within : pin < (graph_of basis).count
  pub kind : ((graph_of basis).node pin).kind ≡ Ipin
  pub own : is_together basis.strip ((graph_of basis).node pin) sink ≡ true

-- Lower bounds: of the costs of the pins on each side, and for each side and track of the cost of
-- the wire there and a pin.
pub record AreSideBounds (basis : Basis) (cost : ℕ → ℕ) (sink : Node) (pins : ℕ → ℕ) (lasts : ℕ → ℕ → ℕ) : Type 0 where
  pub pin : (side number : ℕ) → IsOwnPin basis sink number → is_on_side (sides_at basis.arch basis.strip ((graph_of basis).node number)) side ≡ true → pins side ≤ cost number
  pub last : (side number : ℕ) → IsWireAt basis number → IsAtSide sink side ((graph_of basis).node number).kind ((graph_of basis).node number).x ((graph_of basis).node number).y
      → lasts side ((graph_of basis).node number).n ≤ cost number + pins side

-- A way from a wire that costs this much ends with a wire at a side of the sink's block or pad, and
-- a pin there. If that wire is not the first one, the way costs as much as the distance demands.
pub record IsBySide (basis : Basis) (from : ℕ) (sink : Node) (pins : ℕ → ℕ) (lasts : ℕ → ℕ → ℕ) (sum : ℕ) : Type 0 where
  pub side : ℕ
  pub last : ℕ
  pub wire : IsWireAt basis last
  pub at : IsAtSide sink side ((graph_of basis).node last).kind ((graph_of basis).node last).x ((graph_of basis).node last).y
  pub pin : pins side + 1 ≤ sum
  pub far : IsAtSide sink side ((graph_of basis).node from).kind ((graph_of basis).node from).x ((graph_of basis).node from).y
      ⊎ (wires_apart ((graph_of basis).node from) ((graph_of basis).node last) + lasts side ((graph_of basis).node from).n ≤ sum)

-- ---- paths

-- paths start at a source, an output pin or a wire
abbrev pub IsStartKind : NodeKind → Type 0
IsStartKind Sink = ⊥
IsStartKind Ipin = ⊥
IsStartKind _ = Unit {0}

-- the first node of a path, and what the others cost
abbrev pub first_of : List ℕ → Option ℕ
first_of [] = None
first_of (start ∷ rest) = Some start

abbrev pub cost_over : (ℕ → ℕ) → List ℕ → ℕ
cost_over cost [] = 0
cost_over cost (start ∷ rest) = sum_by cost rest

-- The path begins at a wire, and costs what the way from it costs.
pub record IsFromWire (basis : Basis) (cost : ℕ → ℕ) (sink : Node) (pins : ℕ → ℕ) (lasts : ℕ → ℕ → ℕ) (path : List ℕ) : Type 0 where
  pub start : ℕ
  pub begins : first_of path ≡ Some start
  pub wire : IsWireAt basis start
  pub by : IsBySide basis start sink pins lasts (cost_over cost path)

-- The path begins at an output pin, or at a source before it. It costs what the pin costs if it
-- does not begin there, what the next wire costs, and the way from that.
pub record IsFromPin (basis : Basis) (cost : ℕ → ℕ) (sink : Node) (pins : ℕ → ℕ) (lasts : ℕ → ℕ → ℕ) (path : List ℕ) : Type 0 where
  pub pin : ℕ
  pub wire : ℕ
  pub way : ℕ
  pub kind : ((graph_of basis).node pin).kind ≡ Opin
  pub edge : Contains ((graph_of basis).ends pin) wire
  pub wire_is : IsWireAt basis wire
  pub by : IsBySide basis wire sink pins lasts way
  pub sum : (first_of path ≡ Some pin) × (cost_over cost path ≡ cost wire + way) ⊎ (cost_over cost path ≡ cost pin + (cost wire + way))
