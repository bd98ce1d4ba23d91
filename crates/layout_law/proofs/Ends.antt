-- What a placing and a routing have made at their end.
use Rattle.layout_law.proofs.Prelude.{◌≡◌, ℕ, ◌+◌, ◌<◌, ◌≤◌, Bool, true, false, if◌then◌else◌, List, None, Result, Ok, IfOk, length, get_or, sym, ap, refl, ◌∙◌, inl, inr, subst, arith, position_or_len, range_with_len, cases_lt, get_or-range_with_len, length-range_with_len, fails_before_first, passes_at_first, Arch, circuit_of, Circuit, BlifFault, IsStripSize, Strip, KeptPlaces, Standing, More, Done, GaveUp as GivenUp, NoPath as WithoutPath, routed_after, wiring_of, routes_by_node, graph_of, PlacingUnderWay, is_past_last, HasFewSteps, IsNotOverBefore, basis_in, end_value, is_last, is_whole, is_whole_value, nets_in, pads_in, pass_count, placing_at, placing_sources, routing_sources, routing_stands, step_count, step_limit, value_of, work_of, RoutedCircuit, Placing as PlacingJob, Sources, Work, Placed, over_past_last, placed_made, over_by_thirty, failure_of}
use Rattle.pathfinder.specs.Negotiation.{Routed as RoutedTrees}
use Rattle.job_state.specs.declared.work.Work.TheVariants.{Placing, Routed}

-- the least number that passes, if there is one
first_passes : (test : ℕ → Bool) (limit k : ℕ) → k < limit → test k ≡ true → test (position_or_len test (range_with_len 0 limit)) ≡ true
first_passes test limit k small passes = elim (cases_lt (position_or_len test (range_with_len 0 limit)) (length (range_with_len 0 limit))) [
  | inl within ↦ (let long = length-range_with_len 0 limit in
      let at : get_or (range_with_len 0 limit) (position_or_len test (range_with_len 0 limit)) 0 ≡ position_or_len test (range_with_len 0 limit) = get_or-range_with_len 0 limit (position_or_len test (range_with_len 0 limit)) 0 (omega (arith, within, long)) ∙ omega arith in
      sym (ap test at) ∙ passes_at_first test (range_with_len 0 limit) 0 within)
  | inr past ↦ (let long = length-range_with_len 0 limit in
      let at : get_or (range_with_len 0 limit) k 0 ≡ k = get_or-range_with_len 0 limit k 0 small ∙ omega arith in
      let fails = fails_before_first test (range_with_len 0 limit) k 0 (omega (arith, past, long, small)) in
      let wrong : false ≡ true = sym fails ∙ ap test at ∙ passes in absurd cc)
]

none_before : (test : ℕ → Bool) (limit fewer : ℕ) → fewer < limit → fewer < position_or_len test (range_with_len 0 limit) → test fewer ≡ false
none_before test limit fewer small before = grind (arith, fails_before_first, get_or-range_with_len 0 limit fewer 0 small, fails_before_first test (range_with_len 0 limit) fewer 0 before)

not_past : (test : ℕ → Bool) (limit k : ℕ) → k < limit → test k ≡ true → position_or_len test (range_with_len 0 limit) ≤ k
not_past test limit k small passes = elim (cases_lt k (position_or_len test (range_with_len 0 limit))) [
  | inl before ↦ (let wrong : false ≡ true = sym (none_before test limit k small before) ∙ passes in absurd cc)
  | inr within ↦ within
]

below_limit : (k : ℕ) → k ≤ 8192 → k < step_limit
unfolding step_limit
below_limit k few = omega (arith, few)

module _ (sources : Sources) (few : HasFewSteps sources) where
  -- a job that is over after few steps is over at its end, and not before
  pub over_at_end : is_last sources (step_count sources) ≡ true
  unfolding step_count
  over_at_end = first_passes (is_last sources) step_limit few.0 (below_limit few.0 few.1) few.2

  pub not_over_before : IsNotOverBefore sources (step_count sources)
  unfolding step_count
  not_over_before fewer before =
      let within = not_past (is_last sources) step_limit few.0 (below_limit few.0 few.1) few.2 in
      none_before (is_last sources) step_limit fewer (below_limit fewer (let most = few.1 in omega (arith, before, within, most))) before

module _ (arch : Arch) (strip : Strip) (text : List ℕ) (kept : KeptPlaces) (seed effort : ℕ) (circuit : Circuit) (says : circuit_of text arch.lut_size ≡ Ok circuit) where
  abbrev placing_job : Sources
  placing_job = placing_sources arch strip text kept seed effort

  abbrev routing_job : Sources
  routing_job = routing_sources arch strip text kept seed effort

  -- a placing is placed at its end, after as many passes as its strip takes
  pub placed_end : IsStripSize strip → ((strip : Strip) (passes : ℕ) → is_past_last strip passes ≡ false → passes ≤ strip.width + strip.rows) →
      end_value placing_job ≡ Ok (Placed (placing_at placing_job circuit (pass_count strip)))
  placed_end size law = by (is_past_last strip (step_count placing_job)) refl
    where
      few : HasFewSteps placing_job
      few = (
        strip.width + strip.rows + 1,
        (let w = size.width.1 in let r = size.rows.1 in omega (arith, w, r)),
        over_past_last placing_job (strip.width + strip.rows + 1) refl law (omega arith),
      )

      value : end_value placing_job ≡ Ok (work_of PlacingJob placing_job circuit (step_count placing_job))
      value = ap (λ (r : Result Circuit BlifFault). value_of placing_job r (step_count placing_job)) says

      whole : is_whole_value (end_value placing_job) ≡ true
      whole = over_at_end placing_job few

      of : (b : Bool) (placing : PlacingUnderWay) → is_whole (if b then Placed placing else Placing placing) ≡ true → (if b then Placed placing else Placing placing) ≡ Placed placing
      of true placing h = refl
      of false placing h = absurd cc

      by : (b : Bool) → is_past_last strip (step_count placing_job) ≡ b → end_value placing_job ≡ Ok (Placed (placing_at placing_job circuit (pass_count strip)))
      by b is =
          let sources = placing_job in
          let steps = step_count sources in
          let placing = placing_at sources circuit steps in
          let made : work_of PlacingJob sources circuit steps ≡ Placed placing = of (is_past_last strip steps) placing (sym (ap is_whole_value value) ∙ whole) in
          let ended : end_value sources ≡ Ok (Placed placing) = value ∙ ap (λ (w : Work). let r : Result Work BlifFault = Ok w in r) made in
          let counted = placed_made sources steps placing refl few (not_over_before sources few) (over_at_end sources few) ended in
          let same : placing ≡ placing_at sources circuit (pass_count strip) = subst (λ (r : Result Circuit BlifFault). IfOk r (λ circuit'. placing ≡ placing_at sources circuit' (pass_count strip))) says counted in
          ended ∙ ap (λ (p : PlacingUnderWay). let r : Result Work BlifFault = Ok (Placed p) in r) same

  abbrev after : RoutedTrees
  after = routed_after (wiring_of (basis_in routing_job)) (nets_in routing_job circuit) (step_count routing_job)

  abbrev stands : Standing → Work
  stands standing = routing_stands (basis_in routing_job) (pads_in routing_job circuit) (nets_in routing_job circuit) (step_count routing_job) after standing

  -- a routing that has not failed has routes at its end
  pub record HasRoutes : Type 0 where
    pub routed : RoutedCircuit
    pub ended : end_value routing_job ≡ Ok (Routed routed)
    pub done : after.standing ≡ Done
    pub told : routed.routes ≡ routes_by_node (graph_of (basis_in routing_job)) after.trees

  pub routed_end : failure_of (end_value routing_job) ≡ None → HasRoutes
  routed_end unfailed = by after.standing refl
    where
      few : HasFewSteps routing_job
      few = (30, omega arith, over_by_thirty routing_job 30 refl refl)

      value : end_value routing_job ≡ Ok (stands after.standing)
      value = ap (λ (r : Result Circuit BlifFault). value_of routing_job r (step_count routing_job)) says

      whole : is_whole_value (end_value routing_job) ≡ true
      whole = over_at_end routing_job few

      by : (standing : Standing) → after.standing ≡ standing → HasRoutes
      by More is =
          let at : end_value routing_job ≡ Ok (stands More) = value ∙ ap (λ (s : Standing). let r : Result Work BlifFault = Ok (stands s) in r) is in
          let wrong : false ≡ true = sym (ap is_whole_value at) ∙ whole in absurd cc
      by Done is = record {
        routed = record { basis = basis_in routing_job; routes = routes_by_node (graph_of (basis_in routing_job)) after.trees; pads = pads_in routing_job circuit };
        ended = value ∙ ap (λ (s : Standing). let r : Result Work BlifFault = Ok (stands s) in r) is;
        done = is;
        told = refl;
      }
      by GivenUp is =
          let at : end_value routing_job ≡ Ok (stands GivenUp) = value ∙ ap (λ (s : Standing). let r : Result Work BlifFault = Ok (stands s) in r) is in
          let wrong = sym (ap failure_of at) ∙ unfailed in absurd cc
      by (WithoutPath net) is =
          let at : end_value routing_job ≡ Ok (stands (WithoutPath net)) = value ∙ ap (λ (s : Standing). let r : Result Work BlifFault = Ok (stands s) in r) is in
          let wrong = sym (ap failure_of at) ∙ unfailed in absurd cc
