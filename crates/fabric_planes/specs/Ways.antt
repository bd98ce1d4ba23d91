-- Ways from a wire to a sink.
use Rattle.std.specs.Prelude.{◌≡◌, ℕ, ◌+◌, ◌<◌, ◌≤◌, ◌⊎◌, List, Contains, sum_by, true}
use Rattle.fabric_planes.specs.Prelude.{Ipin, IsWire, is_together, Basis, graph_of}
use Rattle.fabric_planes.specs.Distances.{wires_apart}

-- the node is a wire of the graph
pub record IsWireAt (basis : Basis) (number : ℕ) : Type 0 where
  pub within : number < (graph_of basis).count
  pub wire : IsWire ((graph_of basis).node number).kind

-- the wire leads to the pin, which is an input pin of the goal's block or pad
pub record IsEntry (basis : Basis) (goal last pin : ℕ) : Type 0 where
  pub edge : Contains ((graph_of basis).ends last) pin
  pub within : pin < (graph_of basis).count
  pub kind : ((graph_of basis).node pin).kind ≡ Ipin
  pub own : is_together basis.strip ((graph_of basis).node pin) ((graph_of basis).node goal) ≡ true

-- the way has no further wire, and leads over the pin to the goal
pub record IsDirect (basis : Basis) (cost : ℕ → ℕ) (goal from last pin : ℕ) (rest : List ℕ) : Type 0 where
  pub same : last ≡ from
  pub sum : sum_by cost rest ≡ cost pin + cost goal

-- the way has so many further wires at least, of which the last is dear as it is, and each other
-- one costs at least 1
pub record IsLong (basis : Basis) (cost : ℕ → ℕ) (goal from last pin : ℕ) (rest : List ℕ) : Type 0 where
  pub wires : ℕ
  pub apart : wires_apart ((graph_of basis).node from) ((graph_of basis).node last) ≤ 1 + wires
  pub sum : wires + cost last + cost pin + cost goal ≤ sum_by cost rest

-- The way leads from a wire over its last wire and a pin of the sink's block or pad to the sink.
pub record IsWayOver (basis : Basis) (cost : ℕ → ℕ) (goal from : ℕ) (rest : List ℕ) : Type 0 where
  pub last : ℕ
  pub pin : ℕ
  pub wire : IsWireAt basis last
  pub track : ((graph_of basis).node last).n ≡ ((graph_of basis).node from).n
  pub entry : IsEntry basis goal last pin
  pub length : IsDirect basis cost goal from last pin rest ⊎ IsLong basis cost goal from last pin rest
