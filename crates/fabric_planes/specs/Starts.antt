-- The starts of a net's paths: pins, and wires by track.
use Rattle.std.specs.Prelude.{◌≡◌, ℕ, ◌<◌, ◌⊎◌, Bool, true, false, List, All, Contains, Some, filter, map, slice_index_or, if◌then◌else◌}
use Rattle.fabric_planes.specs.Prelude.{is_wire, Basis, graph_of, IsLowerBound, Family, IsTooFar, places_of, Start}
use Rattle.fabric_planes.specs.declared.net_starts.NetStarts.{NetStarts}
use Rattle.fabric_planes.specs.declared.net_starts.StartWire.{StartWire}
use Rattle.fabric_planes.specs.Layout.{place_of}

-- the wire has this number, and the track and the place are its own
pub record IsStartWire (basis : Basis) (wire : StartWire) : Type 0 where
  pub within : wire.number < (graph_of basis).count
  pub kind : is_wire ((graph_of basis).node wire.number).kind ≡ true
  pub track : wire.track ≡ ((graph_of basis).node wire.number).n
  pub place : wire.place ≡ place_of basis ((graph_of basis).node wire.number)

-- whether the node with this number is a wire, or another node
abbrev pub is_wire_number : Basis → ℕ → Bool
is_wire_number basis number = is_wire ((graph_of basis).node number).kind

abbrev pub is_pin_number : Basis → ℕ → Bool
is_pin_number basis number = if is_wire ((graph_of basis).node number).kind then false else true

-- the starts that are wires, and the others
pub record HasStarts (basis : Basis) (starts : List ℕ) (net : NetStarts) : Type 0 where
  pub pins : net.pins.items ≡ filter (is_pin_number basis) starts
  pub wires : map (λ (wire : StartWire). wire.number) net.wires.items ≡ filter (is_wire_number basis) starts
  pub wires_are : All (IsStartWire basis) net.wires.items

-- ---- lists of a track's starts

-- each is a start of the track's plane with a lower bound
pub record AreSomeStarts (f : Family) (track : ℕ) (starts : List Start) : Type 0 where
  pub among : (start : Start) → Contains starts start → Contains (f.entries track) start.place
  pub bounded : (start : Start) → Contains starts start → IsLowerBound (f.plane track) f.exit start.place (Some start.ahead)

-- the wire is one of the track, and the start is at its place, with a lower bound
pub record IsStartOf (f : Family) (track : ℕ) (wire : StartWire) (start : Start) : Type 0 where
  pub track_is : wire.track ≡ track
  pub place_is : start.place ≡ wire.place
  pub bound : IsLowerBound (f.plane track) f.exit start.place (Some start.ahead)

-- the places of the old list are in the new one
abbrev pub KeepsStarts : List Start → List Start → Type 0
KeepsStarts old new = (place : ℕ) → Contains (places_of old) place → Contains (places_of new) place

-- of the first wires, those of the track are in the list or too far
abbrev pub AddsWires : Family → ℕ → ℕ → ℕ → List StartWire → List Start → Type 0
AddsWires f track most count wires starts = (k : ℕ) (wire : StartWire) → k < count → slice_index_or wires k wire ≡ wire → wire.track ≡ track
    → Contains (places_of starts) wire.place ⊎ IsTooFar f track most wire.place
