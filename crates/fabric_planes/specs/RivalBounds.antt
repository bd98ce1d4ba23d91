-- Private: bounds of the paths that come before a known one, as they are made.
use Rattle.std.specs.Prelude.{◌≡◌, ℕ, ◌+◌, ◌<◌, ◌≤◌, List, length, slice_index, slice_index_or, sum_by}
use Rattle.fabric_planes.specs.Prelude.{Source, Opin, Node, IsWire, Basis, graph_of, Leads, Family}
use Rattle.fabric_planes.specs.declared.net_starts.StartWire.{StartWire}
use Rattle.fabric_planes.specs.declared.pins.PinAt.{PinAt}
use Rattle.fabric_planes.specs.declared.rival_bounds.Lead.{Lead}
use Rattle.fabric_planes.specs.declared.rivals.Head.{Head}
use Rattle.fabric_planes.specs.Bounds.{IsMetAt, IsOutput, IsWireBound}
use Rattle.fabric_planes.specs.Layout.{Terminals, place_of}
use Rattle.fabric_planes.specs.Pins.{IsShownPin}
use Rattle.fabric_planes.specs.Rivals.{ComesFirst}
use Rattle.fabric_planes.specs.Sides.{IsStartKind}

-- the head of paths from a start over a pin, with this first wire
abbrev pub head_over : Basis → ℕ → ℕ → ℕ → Head
head_over basis start pin wire = record { start = start; pin = pin; place = place_of basis ((graph_of basis).node wire); track = ((graph_of basis).node wire).n; cost = 0 }

-- the pin is one of the source's block or pad
pub record IsLead (basis : Basis) (source : Node) (lead : Lead) : Type 0 where
  pub within : lead.pin < (graph_of basis).count
  pub output : IsOutput basis source ((graph_of basis).node lead.pin)
  pub few : lead.more ≤ 10000

-- there is a bound for each track, and none is more than one above the limit
pub record AreLimited (tracks most : ℕ) (bounds : List ℕ) : Type 0 where
  pub long : length bounds ≡ tracks
  pub low : (track : ℕ) → slice_index bounds track ≤ most + 1

-- the bounds of the first tracks are ones of the ways over a side of the pin's block or pad
abbrev pub AreOver : Basis → (ℕ → ℕ) → Family → Lead → ℕ → ℕ → List ℕ → Type 0
AreOver basis cost f lead side count bounds = (wire : ℕ) → IsMetAt basis ((graph_of basis).node lead.pin) side wire → ((graph_of basis).node wire).n < count
    → IsWireBound basis cost f lead.more wire (slice_index bounds ((graph_of basis).node wire).n)

-- the bounds are ones of the paths that come before the head, over a side of the pin's block or pad
abbrev pub AreOverSide : Basis → (ℕ → ℕ) → Family → Head → Lead → ℕ → List ℕ → Type 0
AreOverSide basis cost f head lead side bounds = (wire : ℕ) → IsMetAt basis ((graph_of basis).node lead.pin) side wire → ComesFirst (head_over basis lead.start lead.pin wire) head
    → IsWireBound basis cost f lead.more wire (slice_index bounds ((graph_of basis).node wire).n)

-- over any wire that the pin meets
abbrev pub AreOverPin : Basis → (ℕ → ℕ) → Family → Head → Lead → List ℕ → Type 0
AreOverPin basis cost f head lead bounds = (side : ℕ) → side < 4 → AreOverSide basis cost f head lead side bounds

-- the same, with the pin's whole cost
pub record AreRivalsOver (basis : Basis) (cost : ℕ → ℕ) (f : Family) (head : Head) (start pin more : ℕ) (bounds : List ℕ) : Type 0 where
  pub low : (side wire : ℕ) → side < 4 → IsMetAt basis ((graph_of basis).node pin) side wire → ComesFirst (head_over basis start pin wire) head
      → IsWireBound basis cost f more wire (slice_index bounds ((graph_of basis).node wire).n)

-- the bounds are ones of the paths from the source that come before the head
abbrev pub AreFromSource : Basis → (ℕ → ℕ) → Family → Terminals → Head → ℕ → List ℕ → Type 0
AreFromSource basis cost f t head start bounds = (pin : ℕ) → IsShownPin basis t pin → ((graph_of basis).node pin).kind ≡ Opin → AreRivalsOver basis cost f head start pin (cost pin) bounds

-- the bounds are ones of the paths from this start that come before the head
pub record AreRivalsFrom (basis : Basis) (cost : ℕ → ℕ) (f : Family) (t : Terminals) (head : Head) (start : ℕ) (bounds : List ℕ) : Type 0 where
  pub wire : IsWire ((graph_of basis).node start).kind → start < head.start → (way : List ℕ)
      → Leads (f.plane ((graph_of basis).node start).n) f.exit (place_of basis ((graph_of basis).node start)) way
      → slice_index bounds ((graph_of basis).node start).n ≤ sum_by (f.plane ((graph_of basis).node start).n).cost way
  pub output : ((graph_of basis).node start).kind ≡ Opin → AreRivalsOver basis cost f head start start 0 bounds
  pub source : ((graph_of basis).node start).kind ≡ Source → AreFromSource basis cost f t head start bounds
  pub other : (IsStartKind ((graph_of basis).node start).kind → ⊥) → (track : ℕ) → track < basis.arch.tracks → slice_index bounds track ≡ 0

-- over the pin with this index in a list, if it is an output pin
abbrev pub AreShownTo : Basis → (ℕ → ℕ) → Family → Head → ℕ → List PinAt → ℕ → List ℕ → Type 0
AreShownTo basis cost f head start pins k bounds = (pin : PinAt) → slice_index_or pins k pin ≡ pin → ((graph_of basis).node pin.number).kind ≡ Opin → AreRivalsOver basis cost f head start pin.number (cost pin.number) bounds

-- from the wire with this index in a list
abbrev pub AreWiresTo : Basis → (ℕ → ℕ) → Family → Terminals → Head → List StartWire → ℕ → List ℕ → Type 0
AreWiresTo basis cost f t head wires k bounds = (wire : StartWire) → slice_index_or wires k wire ≡ wire → AreRivalsFrom basis cost f t head wire.number bounds
