-- How the routing of a task ends, by the routing of its placed blocks.
use Rattle.one_user.proofs.Prelude.{ℕ, suc, zero, ◌≡◌, ◌+◌, ◌<◌, ◌≤◌, ◌⊎◌, inl, inr, true, false, List, Ok, Option, Some, None, refl, sym, ap, subst, ◌∙◌, arith, circuit_of, Circuit, end_value, is_last, is_whole, is_whole_value, job_value, nets_in, pads_in, routing_stands, step_count, Work, ends_by_thirty, step_count_is, Routed, Standing, More, Done, GaveUp, NoPath, next_routing, routed_after, wiring_of, RoutingState, Net, Wiring, IterEnd, Basis, Node, failure_of, RoutingFailure, Task, routing_of, IsRoutingEnd}
use Rattle.job_state.specs.declared.work.Work.TheVariants as work
use Rattle.pathfinder.specs.declared.routing.IterEnd.TheVariants as end
use Rattle.tenant_slot.specs.declared.failure.RoutingFailure.TheVariants.{GaveUp as FailedAll, NoPath as FailedNet}
use Rattle.one_user.proofs.Crowdings.{le_or_lt}

-- a routing that goes on has gone on before
gone_on : (w : Wiring) (nets : List Net) (iterations : ℕ) (routed : Routed) (standing : Standing) → routed.standing ≡ standing → (next_routing w nets iterations routed standing).standing ≡ More → routed.standing ≡ More
gone_on w nets iterations routed standing is goes = grind arith

one_before : (w : Wiring) (nets : List Net) (iterations : ℕ) → (routed_after w nets (suc iterations)).standing ≡ More → (routed_after w nets iterations).standing ≡ More
unfolding routed_after
one_before w nets iterations goes = gone_on w nets iterations (routed_after w nets iterations) _ refl goes

more_before : (w : Wiring) (nets : List Net) (iterations : ℕ) → (routed_after w nets iterations).standing ≡ More → (fewer : ℕ) → fewer ≤ iterations → (routed_after w nets fewer).standing ≡ More
more_before w nets zero goes fewer l = let none : 0 ≡ fewer = omega (arith, l) in subst (λ n. (routed_after w nets n).standing ≡ More) none goes
more_before w nets (suc iterations) goes fewer l = grind (arith, more_before w nets iterations (one_before w nets iterations goes))

-- so it has made fewer than thirty iterations
few_made : (w : Wiring) (nets : List Net) (iterations : ℕ) → (routed_after w nets iterations).standing ≡ More → iterations < 30
few_made w nets iterations goes = by (cases iterations)
  where
    cases : (n : ℕ) → (n < 30) ⊎ (30 ≤ n)
    cases n = elim (le_or_lt 30 n) [ inl many ↦ inr many | inr few ↦ inl few ]

    by : (iterations < 30) ⊎ (30 ≤ iterations) → iterations < 30
    by (inl few) = few
    by (inr many) = absurd (ends_by_thirty w nets 30 refl (more_before w nets iterations goes 30 many))

-- the failure in the result of the last iteration
abbrev pub failure_by : IterEnd → Option RoutingFailure
failure_by (end.Again routing) = None
failure_by (end.Done routes) = None
failure_by (end.GaveUp routing) = Some FailedAll
failure_by (end.NoPath net) = Some (FailedNet net)

-- the state of the routing by that result
abbrev standing_by : IterEnd → Standing
standing_by (end.Again routing) = More
standing_by (end.Done routes) = Done
standing_by (end.GaveUp routing) = GaveUp
standing_by (end.NoPath net) = NoPath net

module _ (task : Task) (circuit : Circuit) (said : circuit_of task.text task.arch.lut_size ≡ Ok circuit) where
  abbrev basis : Basis
  basis = record { arch = task.arch; strip = task.strip }

  abbrev nets : List Net
  nets = nets_in (routing_of task) circuit

  abbrev after : ℕ → Routed
  after steps = routed_after (wiring_of basis) nets steps

  abbrev made : ℕ → Standing → Work
  made steps standing = routing_stands basis (pads_in (routing_of task) circuit) nets steps (after steps) standing

  value_is : (steps : ℕ) (standing : Standing) → (after steps).standing ≡ standing → job_value (routing_of task) steps ≡ Ok (made steps standing)
  value_is steps standing is = grind arith

  goes_on : (steps : ℕ) → (after steps).standing ≡ More → is_last (routing_of task) steps ≡ false
  goes_on steps is = ap is_whole_value (value_is steps More is)

  whole : (steps : ℕ) (standing : Standing) → (standing ≡ More → ⊥) → is_whole (made steps standing) ≡ true
  whole steps standing not = grind arith

  is_over : (steps : ℕ) (standing : Standing) → (standing ≡ More → ⊥) → (after steps).standing ≡ standing → is_last (routing_of task) steps ≡ true
  is_over steps standing not is = ap is_whole_value (value_is steps standing is) ∙ whole steps standing not

  -- the routing is over with the iteration after which it doesn't go on
  steps_are : (before : ℕ) (standing : Standing) → (after before).standing ≡ More → (standing ≡ More → ⊥) → (after (before + 1)).standing ≡ standing → step_count (routing_of task) ≡ before + 1
  steps_are before standing going not is =
      let few = few_made (wiring_of basis) nets before going in
      step_count_is (routing_of task) (before + 1) (before + 1, omega (arith, few), is_over (before + 1) standing not is)
      (λ fewer less. goes_on fewer (more_before (wiring_of basis) nets before going fewer (omega (arith, less)))) (is_over (before + 1) standing not is)

  -- the state after the last iteration
  standing_is : (old : RoutingState) (result : IterEnd) (is : IsRoutingEnd basis nets result) → (after (is.before.iterations + 1)).standing ≡ standing_by result
  standing_is old result is = grind arith

  went_on : (result : IterEnd) (is : IsRoutingEnd basis nets result) → (after is.before.iterations).standing ≡ More
  went_on result is = ap (λ ns. (routed_after (wiring_of basis) ns is.before.iterations).standing) (sym is.nets_kept) ∙ ap (λ (r : Routed). r.standing) is.going.exact

  not_more : (result : IterEnd) → IsRoutingEnd basis nets result → standing_by result ≡ More → ⊥
  not_more result is e = grind arith

  -- it is over with that iteration, and has that failure
  pub steps_at_end : (result : IterEnd) (is : IsRoutingEnd basis nets result) → step_count (routing_of task) ≡ is.before.iterations + 1
  steps_at_end result is = steps_are is.before.iterations (standing_by result) (went_on result is) (not_more result is) (standing_is is.before result is)

  pub failure_at_end : (result : IterEnd) → IsRoutingEnd basis nets result → failure_of (end_value (routing_of task)) ≡ failure_by result
  failure_at_end result is = grind (arith, steps_at_end result is)

  -- the routes are those of the routed circuit that the job has made
  pub routes_at_end : (routes : List (List (List Node))) → IsRoutingEnd basis nets (end.Done routes) → end_value (routing_of task) ≡ Ok (work.Routed (record { basis = basis; routes = routes; pads = pads_in (routing_of task) circuit }))
  routes_at_end routes is = grind (arith, steps_at_end (end.Done routes) is)
