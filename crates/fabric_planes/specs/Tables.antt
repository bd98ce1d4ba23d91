-- Private: the tables of a strip's planes.
use Rattle.std.specs.Prelude.{◌≡◌, ℕ, ◌-◌, ◌^◌, ◌<◌, ◌≤◌, List, length, slice_index}
use Rattle.fabric_planes.specs.Prelude.{Node, IsWire, Basis, graph_of}
use Rattle.fabric_planes.specs.declared.shape.Shape.{Shape}
use Rattle.fabric_planes.specs.Layout.{pins_of, place_of, place_count}

-- the sizes are those of the strip
pub record IsShapeOf (basis : Basis) (shape : Shape) : Type 0 where
  pub width : shape.width ≡ basis.strip.width
  pub rows : shape.rows ≡ basis.strip.rows
  pub pins : shape.pins ≡ pins_of basis
  pub tracks : shape.tracks ≡ basis.arch.tracks

-- the node's fields are within their limits
pub record IsNearby (node : Node) : Type 0 where
  pub x : node.x ≤ 256
  pub y : node.y ≤ 65
  pub n : node.n < 256

-- the node is a wire of the first track
pub record IsFirstWire (node : Node) : Type 0 where
  pub wire : IsWire node.kind
  pub first : node.n ≡ 0

-- the node with this number is a wire of the first track, and it is at the place
pub record IsFirstAt (basis : Basis) (place number : ℕ) : Type 0 where
  pub within : number < (graph_of basis).count
  pub first : IsFirstWire ((graph_of basis).node number)
  pub is_at : place_of basis ((graph_of basis).node number) ≡ place

-- no wire
abbrev pub NO_WIRE : ℕ
NO_WIRE = 2 ^ 32 - 1

-- for each place of one of the first nodes that is a wire of the first track, the table has the
-- node's number; for the other places it has none
pub record AreFirstsBelow (basis : Basis) (count : ℕ) (table : List ℕ) : Type 0 where
  pub long : length table ≡ place_count basis
  pub wires : (place number : ℕ) → number < count → IsFirstAt basis place number → slice_index table place ≡ number
  pub others : (place : ℕ) → place < place_count basis → ((number : ℕ) → number < count → IsFirstAt basis place number → ⊥) → slice_index table place ≡ NO_WIRE

-- for each place the number of its first wire
abbrev pub AreFirsts : Basis → List ℕ → Type 0
AreFirsts basis table = AreFirstsBelow basis (graph_of basis).count table
