-- Private: the list of the pins that a net's planes show, as it is made.
use Rattle.std.specs.Prelude.{◌≡◌, ℕ, ◌<◌, ◌⊎◌, List, Contains, true}
use Rattle.fabric_planes.specs.Prelude.{Opin, Node, is_together, Basis, graph_of}
use Rattle.fabric_planes.specs.declared.pins.PinAt.{PinAt}
use Rattle.fabric_planes.specs.Layout.{IsNetSearch, Terminals, place_of, planes_of}
use Rattle.fabric_planes.specs.NetSearches.{terminals_of}
use Rattle.fabric_planes.specs.Pins.{ArePins, HasEnds, HaveEnds, IsShownPin}

-- an output pin of the source's block or pad
pub record IsOutputOf (basis : Basis) (source : Node) (pin : ℕ) : Type 0 where
  pub within : pin < (graph_of basis).count
  pub kind : ((graph_of basis).node pin).kind ≡ Opin
  pub own : is_together basis.strip source ((graph_of basis).node pin) ≡ true

-- the pin has its place, and in the planes of each net that show it the rows are its ends
pub record IsPinAt (basis : Basis) (rows : List (List ℕ)) (pin : PinAt) : Type 0 where
  pub place : pin.place ≡ place_of basis ((graph_of basis).node pin.number)
  pub ends : (cost : ℕ → ℕ) (starts : List ℕ) (goal : ℕ) (t : Terminals) → IsNetSearch basis cost starts goal t → IsShownPin basis t pin.number → HasEnds (planes_of basis cost starts goal t) rows pin

-- the list has the pin with this number
pub record HasPin (pins : List PinAt) (number : ℕ) : Type 0 where
  pub pin : PinAt
  pub contained : Contains pins pin
  pub is : pin.number ≡ number

-- the list has the pins of the old one, those with some numbers, and no others
pub record AddsPins (basis : Basis) (rows : List (List ℕ)) (added : ℕ → Type 0) (old new : List PinAt) : Type 0 where
  pub before : (pin : PinAt) → Contains old pin → Contains new pin
  pub sound : (pin : PinAt) → Contains new pin → Contains old pin ⊎ (IsPinAt basis rows pin × added pin.number)
  pub all : (number : ℕ) → added number → HasPin new number

-- the list has the pins that the net's planes show, with their ends in the rows
pub record ArePinsFor (basis : Basis) (rows : List (List ℕ)) (source goal : ℕ) (pins : List PinAt) : Type 0 where
  pub are_pins : ArePins basis (terminals_of basis source goal) pins
  pub have_ends : (cost : ℕ → ℕ) (starts : List ℕ) → IsNetSearch basis cost starts goal (terminals_of basis source goal) → HaveEnds (planes_of basis cost starts goal (terminals_of basis source goal)) rows pins
