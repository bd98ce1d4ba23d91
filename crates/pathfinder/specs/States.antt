-- Private: the state of a routing in the program's data, and the trees of its next iteration.
use Rattle.std.specs.Prelude.{◌≡◌, ◌+◌, ◌<◌, ◌^◌, All, Ok}
use Rattle.pathfinder.specs.Prelude.{MAX_NETS, Basis, graph_of}
use Rattle.pathfinder.specs.declared.routing.TheConstants.{MAX_ITERATIONS}
use Rattle.pathfinder.specs.declared.state.State.{State}
use Rattle.pathfinder.specs.declared.state.NewTrees.{NewTrees}
use Rattle.pathfinder.specs.Negotiation.{More, routed_after, routing_with_trees}
use Rattle.pathfinder.specs.PlacedNets.{wiring_of}
use Rattle.pathfinder.specs.Rates.{AreRates}
use Rattle.pathfinder.specs.Routings.{RoutingState}
use Rattle.pathfinder.specs.Tables.{IsTable, Tells}

-- the state as a value
abbrev pub state_of : State → RoutingState
state_of s = record { nets = s.nets.items; iterations = s.iterations; trees = s.routes.items; history = s.history.items }

-- these are the trees of the iteration after this state, over nodes of the graph; with each node's
-- occupancy by them, and the rates of that iteration
pub record AreNext (basis : Basis) (s : RoutingState) (new : NewTrees) : Type 0 where
  pub next : routed_after (wiring_of basis) s.nets (s.iterations + 1) ≡ routing_with_trees (wiring_of basis) s.iterations (record { trees = s.trees; history = s.history; standing = More }) (Ok new.routes.items)
  pub within : All (All (All (λ node. node < (graph_of basis).count))) new.routes.items
  pub few : s.iterations < MAX_ITERATIONS
  pub past : IsTable (graph_of basis).count (2 ^ 20) s.history
  pub table : IsTable (graph_of basis).count MAX_NETS new.held.items
  pub tells : Tells (wiring_of basis) new.held.items new.routes.items
  pub rates : AreRates basis s.history new.rates.items
