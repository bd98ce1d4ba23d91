-- Private: the bounds at the sides of a sink's block or pad, as they are made.
use Rattle.std.specs.Prelude.{◌≡◌, ℕ, ◌+◌, ◌*◌, ◌<◌, ◌≤◌, List, [], ◌∷◌, All, length, slice_index, true}
use Rattle.fabric_planes.specs.Prelude.{Sides, Node, is_together, sides_at, Basis, graph_of}
use Rattle.fabric_planes.specs.Aheads.{AreLeast, HaveBounds}
use Rattle.fabric_planes.specs.Sides.{IsOwnPin}
use Rattle.fabric_planes.specs.declared.pin_bounds.PinBounds.{PinBounds}
use Rattle.fabric_planes.specs.declared.side_bounds.SideBounds.{SideBounds}

-- the cost of a pin on these sides is at least the bound of each
pub record AreLow (sides : Sides) (pins : PinBounds) (cost : ℕ) : Type 0 where
  pub top : sides.top ≡ true → pins.top ≤ cost
  pub bottom : sides.bottom ≡ true → pins.bottom ≤ cost
  pub right : sides.right ≡ true → pins.right ≤ cost
  pub left : sides.left ≡ true → pins.left ≤ cost

-- each bound is at most the other's
pub record AreNoDearer (pins others : PinBounds) : Type 0 where
  pub top : pins.top ≤ others.top
  pub bottom : pins.bottom ≤ others.bottom
  pub right : pins.right ≤ others.right
  pub left : pins.left ≤ others.left

-- the bounds by the numbers of the sides
abbrev pub by_side : PinBounds → List ℕ
by_side pins = pins.top ∷ pins.bottom ∷ pins.right ∷ pins.left ∷ []

-- no bound is above the most that counts
pub record AreFew (pins : PinBounds) : Type 0 where
  pub top : pins.top ≤ 19000
  pub bottom : pins.bottom ≤ 19000
  pub right : pins.right ≤ 19000
  pub left : pins.left ≤ 19000

-- if the pin is one of the sink's block or pad, it costs at least the bounds of its sides
abbrev pub IsLowFor : Basis → (ℕ → ℕ) → Node → PinBounds → ℕ → Type 0
IsLowFor basis cost sink pins number = is_together basis.strip ((graph_of basis).node number) sink ≡ true → AreLow (sides_at basis.arch basis.strip ((graph_of basis).node number)) pins (cost number)

-- each pin of the sink's block or pad costs at least the bounds of its sides
abbrev pub ArePinBounds : Basis → (ℕ → ℕ) → Node → PinBounds → Type 0
ArePinBounds basis cost sink pins = (number : ℕ) → IsOwnPin basis sink number → AreLow (sides_at basis.arch basis.strip ((graph_of basis).node number)) pins (cost number)

-- From an index on the bounds of the first wires are their prices and that of a pin. The other
-- bounds are as before.
pub record AreWiresBounded (at : ℕ) (prices : List ℕ) (count pin : ℕ) (old new : List ℕ) : Type 0 where
  pub long : length new ≡ length old
  pub here : (k : ℕ) → k < count → slice_index new (at + k) ≡ slice_index prices k + pin
  pub before : (k : ℕ) → k < at → slice_index new k ≡ slice_index old k
  pub after : (k : ℕ) → at + count ≤ k → slice_index new k ≡ slice_index old k
  pub few : ((k : ℕ) → slice_index old k ≤ 20000) → (k : ℕ) → slice_index new k ≤ 20000

-- The bounds of the wires at this side, whose place is given, are their prices and that of a pin,
-- if the table of prices has the place. The bounds of the sides before are as before.
pub record IsSideBounded (tracks side place : ℕ) (by_place : List ℕ) (pin : ℕ) (old new : List ℕ) : Type 0 where
  pub long : length new ≡ length old
  pub here : (n : ℕ) → n < tracks → place * tracks + n < length by_place → slice_index new (side * tracks + n) ≡ slice_index by_place (place * tracks + n) + pin
  pub before : (k : ℕ) → k < side * tracks → slice_index new k ≡ slice_index old k
  pub few : ((k : ℕ) → slice_index old k ≤ 20000) → (k : ℕ) → slice_index new k ≤ 20000

-- the bounds of the wires at the first sides are their prices and those of the pins there
pub record AreSidesBounded (tracks : ℕ) (sides by_place pins : List ℕ) (count : ℕ) (lasts : List ℕ) : Type 0 where
  pub long : length lasts ≡ 4 * tracks
  pub here : (side n : ℕ) → side < count → n < tracks → slice_index sides side * tracks + n < length by_place
      → slice_index lasts (side * tracks + n) ≡ slice_index by_place (slice_index sides side * tracks + n) + slice_index pins side
  pub few : (k : ℕ) → slice_index lasts k ≤ 20000

-- the bounds are those of a sink
pub record AreBounds (basis : Basis) (cost : ℕ → ℕ) (sink : Node) (bounds : SideBounds) : Type 0 where
  pub four : length bounds.pins.items ≡ 4
  pub few_pins : All (λ bound. bound ≤ 19000) bounds.pins.items
  pub few_lasts : All (λ bound. bound ≤ 20000) bounds.lasts.items
  pub long : length bounds.lasts.items ≡ 4 * basis.arch.tracks
  pub bounded : HaveBounds basis cost sink bounds.pins.items bounds.lasts.items
  pub least : AreLeast basis.arch.tracks bounds.lasts.items bounds.least_lasts.items
