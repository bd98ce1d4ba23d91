-- A routing under way, as its job sees it.
use Rattle.job_state.specs.Prelude.{PackedCircuit, Place, More, Routed, routed_after, nets_to_route, wiring_of, Net, RoutingState, IsAfter, Basis, Resource}
use Rattle.std.specs.Prelude.{ℕ, List}

-- a routing between two iterations, with the basis of its strip's graph and the pads of its blocks
pub record RoutingUnderWay : Type 0 where
  pub basis : Basis
  pub pads : List Resource
  pub state : RoutingState

-- a routing between blocks at these places, before the first iteration: it has the nets, and no
-- paths
abbrev pub begun_state : Basis → PackedCircuit → List Place → RoutingState
begun_state basis packed places =
    made_of (nets_to_route basis packed places) 0 (routed_after (wiring_of basis) (nets_to_route basis packed places) 0)
  where
    made_of : List Net → ℕ → Routed → RoutingState
    made_of nets iterations routed = record { nets = nets; iterations = iterations; trees = routed.trees; history = routed.history }

-- it goes on
abbrev pub GoesOn : Basis → RoutingState → Type 0
GoesOn basis state = IsAfter (wiring_of basis) state More
