-- A routing that goes on, and nets without a path.
use Rattle.job_state.proofs.Prelude.{ℕ, ◌≡◌, ◌+◌, ◌≤◌, List, arith, wiring_of, FindsNoPath, IsDone, RoutingState, Net, Basis, Node, Resource, Work, Routing, Routed, routing_after, GoesOn, RoutingUnderWay, RoutedCircuit}
use Rattle.job_state.proofs.Iterations.{of_nets}

abbrev made_of : Basis → List Resource → RoutingState → List Net → ℕ → Work
made_of basis pads state nets steps = Routing (record { basis = basis; pads = pads; state = record { nets = nets; iterations = steps; trees = state.trees; history = state.history } })

-- it goes on
pub goes_on : (basis : Basis) (pads : List Resource) (nets : List Net) (steps : ℕ) (state : RoutingState) → state.nets ≡ nets → state.iterations ≡ steps → GoesOn basis state →
    Routing (record { basis = basis; pads = pads; state = state }) ≡ routing_after basis pads nets steps
goes_on basis pads nets steps state same count after = grind arith

-- it has found routes
pub is_routed : (basis : Basis) (pads : List Resource) (old : RoutingState) (routes : List (List (List Node))) → IsDone basis old routes →
    Routed (record { basis = basis; routes = routes; pads = pads }) ≡ routing_after basis pads old.nets (old.iterations + 1)
is_routed basis pads old routes done = grind arith

-- it has found routes, on the graph of its own strip
pub found_on : (basis own : Basis) (old : RoutingUnderWay) (pads : List Resource) (state : RoutingState) (routes : List (List (List Node))) (routed : RoutedCircuit) → IsDone basis state routes → basis ≡ own → basis ≡ old.basis → pads ≡ old.pads → state ≡ old.state →
    routed ≡ record { basis = own; routes = routes; pads = pads } → Routed routed ≡ routing_after old.basis old.pads old.state.nets (old.state.iterations + 1)
found_on basis own old pads state routes routed done here there same_pads same is = search arith

-- the number of a net without a path fits in 32 bits
pub few_nets : (basis : Basis) (old : RoutingState) (net : ℕ) → GoesOn basis old → FindsNoPath (wiring_of basis) old net → net ≤ 8192
few_nets basis old net after is = grind (arith, of_nets (wiring_of basis) old.nets (old.iterations + 1))
