-- The pins that the planes of a net show, and the prices of wires.
use Rattle.std.specs.Prelude.{◌≡◌, ℕ, ◌+◌, ◌-◌, ◌*◌, ◌<◌, ◌≤◌, ◌^◌, List, [], map, length, slice_index, slice_index_or, Contains, true}
use Rattle.fabric_planes.specs.Prelude.{Node, IsWire, Family, Basis, graph_of}
use Rattle.fabric_planes.specs.Sides.{IsAtSide}
use Rattle.fabric_planes.specs.Ends.{shown_ends}
use Rattle.fabric_planes.specs.Ways.{IsWireAt}
use Rattle.fabric_planes.specs.declared.pins.PinAt.{PinAt}
use Rattle.fabric_planes.specs.Laid.{IsWireOf}
use Rattle.fabric_planes.specs.Layout.{Terminals, place_of, place_count, shows, stride_of}

-- the node is shown in all planes: it is no wire
pub record IsShownPin (basis : Basis) (t : Terminals) (number : ℕ) : Type 0 where
  pub within : number < (graph_of basis).count
  pub no_wire : IsWire ((graph_of basis).node number).kind → ⊥
  pub shown : shows basis.strip t 0 ((graph_of basis).node number).kind ((graph_of basis).node number) ≡ true

-- the list has each pin that is shown, with its place, and no others
pub record ArePins (basis : Basis) (t : Terminals) (pins : List PinAt) : Type 0 where
  pub shown : (pin : PinAt) → Contains pins pin → IsShownPin basis t pin.number
  pub place : (pin : PinAt) → Contains pins pin → place_of basis ((graph_of basis).node pin.number) ≡ pin.place
  pub all : (number : ℕ) → IsShownPin basis t number → ((k : ℕ) (d : PinAt) → k < length pins → (slice_index_or pins k d).place ≡ place_of basis ((graph_of basis).node number) → ⊥) → ⊥

-- The prices of the wires, track by track and place by place: 255 stands for costs that are not
-- told, and for places without a wire.
pub record ArePrices (basis : Basis) (cost : ℕ → ℕ) (prices : List ℕ) : Type 0 where
  pub long : length prices ≡ basis.arch.tracks * place_count basis
  pub told : (place number : ℕ) → IsWireOf basis place number → (slice_index prices (((graph_of basis).node number).n * place_count basis + place) ≡ 255 → ⊥)
      → slice_index prices (((graph_of basis).node number).n * place_count basis + place) ≡ cost number
  pub others : (track place : ℕ) → track < basis.arch.tracks → place < place_count basis → ((number : ℕ) → IsWireOf basis place number → ((graph_of basis).node number).n ≡ track → ⊥) → slice_index prices (track * place_count basis + place) ≡ 255

-- the numbers of the row, with the base added
abbrev pub ends_in : List (List ℕ) → ℕ → ℕ → List ℕ
ends_in rows row base = map (λ end. end + base) (slice_index_or rows row [])

-- the rows of a pin are its ends in each plane
pub record HasEnds (f : Family) (rows : List (List ℕ)) (pin : PinAt) : Type 0 where
  pub few : pin.row ≤ 2 ^ 32
  pub per_track : pin.per_track ≤ 1
  pub within : (track : ℕ) → track < f.tracks → pin.row + pin.per_track * track < length rows
  pub ends : (track : ℕ) → track < f.tracks → ends_in rows (pin.row + pin.per_track * track) pin.base ≡ (f.plane track).ends pin.place

abbrev pub HaveEnds : Family → List (List ℕ) → List PinAt → Type 0
HaveEnds f rows pins = (pin : PinAt) → Contains pins pin → HasEnds f rows pin

-- Lower bounds of the costs of the wires, place by place and track by track: 255 for places without
-- a wire.
pub record AreByPlace (basis : Basis) (cost : ℕ → ℕ) (prices : List ℕ) : Type 0 where
  pub long : length prices ≡ place_count basis * basis.arch.tracks
  pub low : (place number : ℕ) → IsWireOf basis place number → slice_index prices (place * basis.arch.tracks + ((graph_of basis).node number).n) ≤ cost number

-- For each side the rows from this one on are the ends of its wires, in the planes of each net with
-- this sink.
pub record AreArrivals (basis : Basis) (sink : Node) (rows : List (List ℕ)) (firsts : List ℕ) : Type 0 where
  pub four : length firsts ≡ 4
  pub few : (side : ℕ) → side < 4 → slice_index firsts side ≤ 2 ^ 32
  pub within : (side track : ℕ) → side < 4 → track < basis.arch.tracks → slice_index firsts side + track < length rows
  pub ends : (t : Terminals) → t.sink ≡ sink → (side number : ℕ) → IsWireAt basis number → IsAtSide sink side ((graph_of basis).node number).kind ((graph_of basis).node number).x ((graph_of basis).node number).y
      → ends_in rows (slice_index firsts side + ((graph_of basis).node number).n) (place_of basis ((graph_of basis).node number) - 2 * stride_of basis) ≡ shown_ends basis t ((graph_of basis).node number).n number

-- no wire at the place is at a side of the sink's block or pad
abbrev pub IsAside : Basis → Node → ℕ → Type 0
IsAside basis sink place = (side number : ℕ) → IsWireOf basis place number → IsAtSide sink side ((graph_of basis).node number).kind ((graph_of basis).node number).x ((graph_of basis).node number).y → ⊥
