-- How paths leave their starts, and which paths come before a known one.
use Rattle.std.specs.Prelude.{◌≡◌, ℕ, ◌+◌, ◌<◌, ◌⊎◌, List, ◌∷◌, Contains, map, sum_by}
use Rattle.fabric_planes.specs.Prelude.{Leads, cost_of, Family, Source, Opin, Basis, graph_of}
use Rattle.fabric_planes.specs.declared.rivals.Head.{Head}
use Rattle.fabric_planes.specs.Laid.{IsWireOf}
use Rattle.fabric_planes.specs.Sides.{IsStartKind}

-- the nodes begin with a wire, at this place and on this track
pub record IsWireHead (basis : Basis) (head : Head) (nodes : List ℕ) : Type 0 where
  pub rest : List ℕ
  pub begins : nodes ≡ head.start ∷ rest
  pub pin : head.pin ≡ head.start
  pub wire_is : IsWireOf basis head.place head.start
  pub track : ((graph_of basis).node head.start).n ≡ head.track

-- they begin with an output pin, and a wire at this place and on this track
pub record IsPinHead (basis : Basis) (head : Head) (nodes : List ℕ) : Type 0 where
  pub wire : ℕ
  pub rest : List ℕ
  pub begins : nodes ≡ head.start ∷ wire ∷ rest
  pub kind : ((graph_of basis).node head.start).kind ≡ Opin
  pub pin : head.pin ≡ head.start
  pub wire_is : IsWireOf basis head.place wire
  pub track : ((graph_of basis).node wire).n ≡ head.track

-- they begin with a source, an output pin, and a wire at this place and on this track
pub record IsSourceHead (basis : Basis) (head : Head) (nodes : List ℕ) : Type 0 where
  pub wire : ℕ
  pub rest : List ℕ
  pub begins : nodes ≡ head.start ∷ head.pin ∷ wire ∷ rest
  pub kind : ((graph_of basis).node head.start).kind ≡ Source
  pub wire_is : IsWireOf basis head.place wire
  pub track : ((graph_of basis).node wire).n ≡ head.track

-- the nodes begin so
abbrev pub IsHeadOf : Basis → Head → List ℕ → Type 0
IsHeadOf basis head nodes = IsWireHead basis head nodes ⊎ (IsPinHead basis head nodes ⊎ IsSourceHead basis head nodes)

-- one head comes before another: by start, then pin, then place, then track
abbrev pub ComesFirst : Head → Head → Type 0
ComesFirst head other = (head.start < other.start)
    ⊎ ((head.start ≡ other.start) × ((head.pin < other.pin)
    ⊎ ((head.pin ≡ other.pin) × ((head.place < other.place)
    ⊎ ((head.place ≡ other.place) × (head.track < other.track))))))

-- ---- paths of a track's plane

-- The path begins at a wire.
pub record IsWirePath (basis : Basis) (starts : List ℕ) (f : Family) (track : ℕ) (path : List ℕ) : Type 0 where
  pub head : Head
  pub is : IsWireHead basis head (map (f.number track) path)
  pub on : head.track ≡ track
  pub start : Contains starts head.start
  pub way : List ℕ
  pub leads : Leads (f.plane track) f.exit head.place way
  pub sum : cost_of (f.plane track) path ≡ sum_by (f.plane track).cost way

-- It begins at an output pin, from which an edge leads to a wire.
pub record IsPinPath (basis : Basis) (cost : ℕ → ℕ) (starts : List ℕ) (f : Family) (track : ℕ) (path : List ℕ) : Type 0 where
  pub head : Head
  pub is : IsPinHead basis head (map (f.number track) path)
  pub on : head.track ≡ track
  pub start : Contains starts head.start
  pub edge : Contains ((graph_of basis).ends head.pin) is.wire
  pub way : List ℕ
  pub leads : Leads (f.plane track) f.exit head.place way
  pub sum : cost_of (f.plane track) path ≡ cost is.wire + sum_by (f.plane track).cost way

-- It begins at a source, from which edges lead to an output pin and to a wire.
pub record IsSourcePath (basis : Basis) (cost : ℕ → ℕ) (starts : List ℕ) (f : Family) (track : ℕ) (path : List ℕ) : Type 0 where
  pub head : Head
  pub is : IsSourceHead basis head (map (f.number track) path)
  pub on : head.track ≡ track
  pub start : Contains starts head.start
  pub first : Contains ((graph_of basis).ends head.start) head.pin
  pub edge : Contains ((graph_of basis).ends head.pin) is.wire
  pub way : List ℕ
  pub leads : Leads (f.plane track) f.exit head.place way
  pub sum : cost_of (f.plane track) path ≡ cost head.pin + (cost is.wire + sum_by (f.plane track).cost way)

-- It begins at an input pin or a sink.
pub record IsOtherPath (basis : Basis) (starts : List ℕ) (f : Family) (track : ℕ) (path : List ℕ) : Type 0 where
  pub start : ℕ
  pub contained : Contains starts start
  pub kind : IsStartKind ((graph_of basis).node start).kind → ⊥

-- Each path of a plane begins in one of these ways.
abbrev pub IsPathFrom : Basis → (ℕ → ℕ) → List ℕ → Family → ℕ → List ℕ → Type 0
IsPathFrom basis cost starts f track path = (IsWirePath basis starts f track path ⊎ IsOtherPath basis starts f track path)
    ⊎ (IsPinPath basis cost starts f track path ⊎ IsSourcePath basis cost starts f track path)
