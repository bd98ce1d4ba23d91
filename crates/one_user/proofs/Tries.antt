-- What the routing of a placed netlist says of the outcome.
use Rattle.one_user.proofs.Prelude.{ℕ, ◌≡◌, ◌+◌, List, Result, Ok, Option, Some, None, refl, sym, ap, subst, ◌∙◌, arith, circuit_of, Circuit, fit_of, block_nets, packed_of, unfit_of, end_value, nets_in, pads_in, pass_count, placing_at, step_count, RoutedCircuit, held_by, pads_of, held_at_end, resources_of, Work, BlifFault, Routed, routed_after, count_over, overuse_at, wiring_of, RoutingState, Net, IterEnd, Basis, graph_of, Node, PlacingUnderWay, places_by_block, place_file_of, route_file_of, misfit_of, RoutingFailure, net_text_of, AreCrowdedNodes, IsCrowdingOf, IsGivenUp, last_trees, HasFigures, Task, by_routing, files_of, left_of, outcome_of, placing_of, routing_of, AreFiguresWith, EndsWith, IsRunWith, counts_in, files_with, nets_on_device, routed_with, AreAllPasses, IsLastIteration, IsRoutes, IsRoutingEnd, IsPlaced, WasRouted, WasUnrouted, Crowding, Figures, PackedCounts, Files, FlowOutcome, Run, LastIteration}
use Rattle.std.specs.Prelude.{length}
use Rattle.job_state.specs.declared.work.Work.TheVariants as work
use Rattle.pathfinder.specs.declared.routing.IterEnd.TheVariants as end
use Rattle.tenant_slot.specs.declared.failure.RoutingFailure.TheVariants.{GaveUp as FailedAll, NoPath as FailedNet}
use Rattle.one_user.proofs.LastResults.{failure_at_end, failure_by, routes_at_end, steps_at_end}
use Rattle.one_user.proofs.PlacingEnds.{placing_ended}
use Rattle.one_user.proofs.Routings.{outcome_is}

-- the basis of a task's graph
abbrev pub basis_for : Task → Basis
basis_for task = record { arch = task.arch; strip = task.strip }

-- the placing of a task's circuit, after its last pass
abbrev pub whole_placing : Task → Circuit → PlacingUnderWay
whole_placing task circuit = placing_at (placing_of task) circuit (pass_count task.strip)

-- the counts of a task's packed circuit
abbrev pub counts_for : Task → Circuit → PackedCounts
counts_for task circuit = record {
  clusters = length (packed_of circuit task.arch).clusters;
  pads = length circuit.inputs + length circuit.outputs;
  nets = length (block_nets (packed_of circuit task.arch));
}

-- the placing serves for the task: it may be packed for another number of tracks
pub record Serves (task : Task) (placing : PlacingUnderWay) : Type 0 where
  pub circuit : Circuit
  pub said : circuit_of task.text task.arch.lut_size ≡ Ok circuit
  pub fits : unfit_of circuit task.arch ≡ None
  pub enough : misfit_of (fit_of task.strip (packed_of circuit task.arch)) ≡ None
  pub all : AreAllPasses task.strip (pass_count task.strip)
  pub nets : nets_on_device (basis_for task) placing ≡ nets_in (routing_of task) circuit
  pub files : (routes : List (List (List Node))) → files_with placing routes ≡ files_with (whole_placing task circuit) routes
  pub counts : counts_in placing ≡ counts_for task circuit
  pub pads : pads_of placing.packed (places_by_block placing) ≡ pads_in (routing_of task) circuit

-- the failure of a routing that ended without routes
without_routes : (result : IterEnd) (basis : Basis) (nets : List Net) → IsRoutingEnd basis nets result → (IsRoutes result → ⊥) → (failure : RoutingFailure) × (failure_by result ≡ Some failure)
without_routes (end.Again routing) basis nets is not = absurd is.over
without_routes (end.Done routes) basis nets is not = absurd (not tt)
without_routes (end.GaveUp routing) basis nets is not = (FailedAll, refl)
without_routes (end.NoPath net) basis nets is not = (FailedNet net, refl)

module _ (task : Task) (placing : PlacingUnderWay) (given : Serves task placing) where
  is_placed : IsPlaced task
  is_placed = record { circuit = given.circuit; said = given.said; fits = given.fits; enough = given.enough }

  abbrev pub Ended : IterEnd → Type 0
  Ended result = IsRoutingEnd (basis_for task) (nets_on_device (basis_for task) placing) result

  own_end : (result : IterEnd) → Ended result → IsRoutingEnd (basis_for task) (nets_in (routing_of task) given.circuit) result
  own_end result ended = subst (λ nets. IsRoutingEnd (basis_for task) nets result) given.nets ended

  outcome_by : (result : IterEnd) → Ended result → outcome_of task ≡ by_routing task given.circuit (failure_by result)
  unfolding is_placed
  outcome_by result ended = outcome_is task is_placed (failure_by result) (failure_at_end task given.circuit given.said result (own_end result ended))

  -- ---- without routes

  pub unrouted : (result : IterEnd) → Ended result → (IsRoutes result → ⊥) → (told : FlowOutcome) × (told ≡ outcome_of task) × WasUnrouted told
  unrouted result ended not = grind (arith, outcome_by result ended)

  -- ---- with routes

  abbrev placed : Result Work BlifFault
  placed = Ok (work.Placed (whole_placing task given.circuit))

  routed : List (List (List Node)) → Result Work BlifFault
  routed routes = Ok (work.Routed (record { basis = basis_for task; routes = routes; pads = pads_in (routing_of task) given.circuit }))

  abbrev made : Result Work BlifFault → Result Work BlifFault → Files
  made placing routing = record { net = net_text_of (packed_of given.circuit task.arch); places = place_file_of placing; routes = route_file_of placing routing }

  files_are : (routes : List (List (List Node))) → Ended (end.Done routes) → files_of task given.circuit ≡ files_with placing routes
  unfolding routed
  files_are routes ended =
      let own = own_end (end.Done routes) ended in
      ap (λ p. made p (end_value (routing_of task))) (placing_ended task given.circuit given.said given.all)
      ∙ ap (made placed) (routes_at_end task given.circuit given.said routes own)
      ∙ sym (given.files routes)

  held_is : (routes : List (List (List Node))) → Ended (end.Done routes) → held_by (routed_with (basis_for task) placing routes) ≡ resources_of (routing_of task)
  unfolding resources_of
  held_is routes ended =
      let own = own_end (end.Done routes) ended in
      ap (λ pads. held_by (let r : RoutedCircuit = record { basis = basis_for task; routes = routes; pads = pads } in r)) given.pads
      ∙ sym (ap held_at_end (routes_at_end task given.circuit given.said routes own))

  number_is : (routes : List (List (List Node))) (number : ℕ) → EndsWith (basis_for task) placing routes number → number ≡ step_count (routing_of task)
  number_is routes number ends =
      let last : LastIteration = record { end = end.Done routes; number = number } in
      let own = subst (λ nets. IsLastIteration (basis_for task) nets last) given.nets ends in
      own.1 ∙ sym (steps_at_end task given.circuit given.said (end.Done routes) own.0)

  figures_are : (routes : List (List (List Node))) (number : ℕ) → EndsWith (basis_for task) placing routes number → (figures : Figures) → AreFiguresWith (basis_for task) placing routes number figures → HasFigures task figures
  figures_are routes number ends figures are = grind (arith, held_is routes ends.0, number_is routes number ends)

  pub routed_by : (routes : List (List (List Node))) (number : ℕ) → EndsWith (basis_for task) placing routes number → (run : Run) → IsRunWith (basis_for task) placing routes number run →
      (run.outcome ≡ outcome_of task) × WasRouted run.outcome × ((figures : Figures) × (run.figures ≡ Some figures) × HasFigures task figures)
  routed_by routes number ends run is = grind (arith, files_are routes ends.0, figures_are routes number ends is.figures is.are_figures)

  -- ---- the crowding

  -- not given up
  not_given : (failure : Option RoutingFailure) → outcome_of task ≡ by_routing task given.circuit failure → (failure ≡ Some FailedAll → ⊥) → IsGivenUp task → ⊥
  not_given failure outcome not up = grind arith

  abbrev pub IsAllFailed : IterEnd → Type 0
  IsAllFailed result = failure_by result ≡ Some FailedAll

  pub none_told : (result : IterEnd) → Ended result → (IsAllFailed result → ⊥) → IsCrowdingOf task None
  none_told result ended not = not_given (failure_by result) (outcome_by result ended) not

  given_up : (routing : RoutingState) → Ended (end.GaveUp routing) → IsGivenUp task
  given_up routing ended = (left_of task given.circuit FailedAll, outcome_by (end.GaveUp routing) ended, refl)

  -- its trees are those after the last iteration
  trees_are : (routing : RoutingState) → Ended (end.GaveUp routing) → routing.trees ≡ last_trees task given.circuit
  trees_are routing ended =
      let own = own_end (end.GaveUp routing) ended in
      let w = wiring_of (basis_for task) in
      ap (λ (r : Routed). r.trees) (sym own.is_end.after.exact)
      ∙ ap (λ nets. (routed_after w nets routing.iterations).trees) (own.is_end.nets ∙ own.nets_kept)
      ∙ ap (λ steps. (routed_after w (nets_in (routing_of task) given.circuit) steps).trees) (own.is_end.iterations ∙ sym (steps_at_end task given.circuit given.said (end.GaveUp routing) own))

  pub crowding_told : (routing : RoutingState) → Ended (end.GaveUp routing) → (crowding : Crowding) → crowding.packed ≡ packed_of given.circuit task.arch → crowding.rows ≡ task.strip.rows →
      crowding.overused ≡ count_over (overuse_at (wiring_of (basis_for task)) routing.trees) (graph_of (basis_for task)).count → AreCrowdedNodes (basis_for task) routing.trees 10 crowding.nodes.items → IsCrowdingOf task (Some crowding)
  crowding_told routing ended crowding packed rows overused nodes = grind (arith, given_up routing ended, trees_are routing ended)
