-- Tables of the prices of a strip's wires, at costs that change.
use Rattle.std.specs.Prelude.{◌≡◌, ℕ, ◌+◌, ◌*◌, ◌<◌, ◌≤◌, ◌⊎◌, List, length, slice_index, slice_set}
use Rattle.fabric_planes.specs.Prelude.{IsWire, Basis, graph_of}
use Rattle.fabric_planes.specs.declared.price_table.PriceAt.{PriceAt}
use Rattle.fabric_planes.specs.declared.price_table.PriceTable.{PriceTable}
use Rattle.fabric_planes.specs.Laid.{IsWireOf}
use Rattle.fabric_planes.specs.Layout.{place_of, place_count}
use Rattle.fabric_planes.specs.Pins.{ArePrices, AreByPlace}
use Rattle.fabric_planes.specs.Ways.{IsWireAt}

-- the table has the prices at these costs
pub record HasPrices (basis : Basis) (cost : ℕ → ℕ) (table : PriceTable) : Type 0 where
  pub told : ArePrices basis cost table.prices.items
  pub low : AreByPlace basis cost table.by_place.items

-- the costs are the same, except for the nodes in the list
abbrev pub AgreeBut : Basis → (ℕ → ℕ) → (ℕ → ℕ) → List ℕ → Type 0
AgreeBut basis old new nodes = (number : ℕ) → number < (graph_of basis).count → ((k : ℕ) → k < length nodes → slice_index nodes k ≡ number → ⊥) → old number ≡ new number

-- ---- Private

-- the price is the cost, or it tells nothing; it is never more
pub record IsPrice (cost price : ℕ) : Type 0 where
  pub told : (price ≡ 255 → ⊥) → price ≡ cost
  pub low : price ≤ cost

-- the numbers of prices
abbrev pub HasRoom : Basis → List ℕ → Type 0
HasRoom basis prices = length prices ≡ basis.arch.tracks * place_count basis

abbrev pub HasRoomByPlace : Basis → List ℕ → Type 0
HasRoomByPlace basis prices = length prices ≡ place_count basis * basis.arch.tracks

-- the node is a wire, and these are the indexes of its price in the two tables
pub record IsSpot (basis : Basis) (number : ℕ) (spot : PriceAt) : Type 0 where
  pub wire : IsWireAt basis number
  pub is : spot.by_track ≡ ((graph_of basis).node number).n * place_count basis + place_of basis ((graph_of basis).node number)
  pub low : spot.by_track < basis.arch.tracks * place_count basis
  pub is_by_place : spot.by_place ≡ place_of basis ((graph_of basis).node number) * basis.arch.tracks + ((graph_of basis).node number).n
  pub low_by_place : spot.by_place < place_count basis * basis.arch.tracks

-- the wire of this track is at the place
pub record IsWireOn (basis : Basis) (place track number : ℕ) : Type 0 where
  pub wire : IsWireOf basis place number
  pub on_track : ((graph_of basis).node number).n ≡ track

-- the node is a wire at the place, on this track or a later one, or at a later place
abbrev pub ComesFrom : Basis → ℕ → ℕ → ℕ → Type 0
ComesFrom basis place track number =
    IsWireAt basis number × (((place_of basis ((graph_of basis).node number) ≡ place) × (track ≤ ((graph_of basis).node number).n)) ⊎ (place < place_of basis ((graph_of basis).node number)))

-- the prices of all wires are at most these costs, except for some nodes
pub record AreByPlaceBut (basis : Basis) (cost : ℕ → ℕ) (but : ℕ → Type 0) (prices : List ℕ) : Type 0 where
  pub long : length prices ≡ place_count basis * basis.arch.tracks
  pub low : (place number : ℕ) → IsWireOf basis place number → (but number → ⊥) → slice_index prices (place * basis.arch.tracks + ((graph_of basis).node number).n) ≤ cost number

-- a wire's price is set by its cost
pub record IsPriceSet (basis : Basis) (cost number : ℕ) (old new old_by_place new_by_place : List ℕ) : Type 0 where
  pub spot : PriceAt
  pub is_spot : IsSpot basis number spot
  pub price : ℕ
  pub is_price : IsPrice cost price
  pub set : new ≡ slice_set old spot.by_track price
  pub set_by_place : new_by_place ≡ slice_set old_by_place spot.by_place price

-- both tables are as before
pub record IsUnpriced (basis : Basis) (number : ℕ) (old new old_by_place new_by_place : List ℕ) : Type 0 where
  pub no_wire : IsWire ((graph_of basis).node number).kind → ⊥
  pub same : new ≡ old
  pub same_by_place : new_by_place ≡ old_by_place

-- if the node is a wire, its price is set by its cost
abbrev pub IsRepriced : Basis → ℕ → ℕ → List ℕ → List ℕ → List ℕ → List ℕ → Type 0
IsRepriced basis cost number old new old_by_place new_by_place = IsPriceSet basis cost number old new old_by_place new_by_place ⊎ IsUnpriced basis number old new old_by_place new_by_place
