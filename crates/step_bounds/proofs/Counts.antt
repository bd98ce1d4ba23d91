-- Jobs are over after few steps.
use Rattle.std.proofs.Common.{ℕ, zero, suc, ◌≡◌, ◌+◌, ◌≤◌, ◌<◌, Bool, true, false, List, [], ◌∷◌, cond, length, Result, Ok, Err, inl, inr, refl, ap, ◌∙◌, subst, arith}
use Rattle.std.specs.Prelude.{◌⊎◌, IfOk, get_or, not}
use Rattle.std.specs.List.{position_or_len, range_with_len}
use Rattle.std.proofs.lemmas.Bool.{cases_lt}
use Rattle.std.proofs.lemmas.List.FromFn.{get_or-range_with_len, length-range_with_len}
use Rattle.blif.specs.LawfulCircuits.{IsCircuit}
use Rattle.blif.specs.declared.circuit.Circuit.{Circuit}
use Rattle.blif.specs.declared.fault.BlifFault.{BlifFault}
use Rattle.cluster.specs.Clusters.{packing_steps}
use Rattle.job_state.specs.declared.sources.JobKind.{JobKind}
use Rattle.job_state.specs.declared.sources.JobKind.TheVariants.{Packing, Placing, Routing}
use Rattle.job_state.specs.declared.sources.Sources.{Sources}
use Rattle.job_state.specs.JobValue.{circuit_in, is_last, is_whole_value, step_count, step_limit, value_of}
use Rattle.strip_place.proofs.Cooling.{few_passes}
use Rattle.job_state.proofs.Beginnings.{over_past_last, packing_ends}
use Rattle.job_state.proofs.FewSteps.{few_steps}
use Rattle.job_state.proofs.Routings.{over_by_thirty}
use Rattle.step_bounds.specs.Bounds.{AreFew, AreRead, FlowIsShort, most_steps}

-- the first element that passes comes no later than another one that does
first_passes : (test : ℕ → Bool) (xs : List ℕ) (k : ℕ) → k < length xs → test (get_or xs k 0) ≡ true → position_or_len test xs ≤ k
first_passes test [] k within passes = absurd (omega arith)
first_passes test (x ∷ xs) zero within passes = let e : cond (not (test x)) (1 + position_or_len test xs) 0 ≡ 0 = ap (λ b. cond (not b) (1 + position_or_len test xs) 0) passes in omega (arith, e)
first_passes test (x ∷ xs) (suc k) within passes = by_test (test x) (first_passes test xs k (omega (arith, within)) passes)
  where
    by_test : (b : Bool) → position_or_len test xs ≤ k → cond (not b) (1 + position_or_len test xs) 0 ≤ suc k
    by_test true rest = omega arith
    by_test false rest = omega (arith, rest)

never_more : (test : ℕ → Bool) (xs : List ℕ) → position_or_len test xs ≤ length xs
never_more test [] = omega arith
never_more test (x ∷ xs) = by_test (test x) (never_more test xs)
  where
    by_test : (b : Bool) → position_or_len test xs ≤ length xs → cond (not b) (1 + position_or_len test xs) 0 ≤ suc (length xs)
    by_test true rest = omega arith
    by_test false rest = omega (arith, rest)

-- a number that passes is not below the least one
least_within : (test : ℕ → Bool) (limit number : ℕ) → test number ≡ true → position_or_len test (range_with_len 0 limit) ≤ number
least_within test limit number passes = by_size (cases_lt number limit)
  where
    by_size : (number < limit) ⊎ (limit ≤ number) → position_or_len test (range_with_len 0 limit) ≤ number
    by_size (inl less) =
        first_passes test (range_with_len 0 limit) number (omega (arith, less, length-range_with_len 0 limit)) (ap test (get_or-range_with_len 0 limit number 0 less ∙ omega arith) ∙ passes)
    by_size (inr more) = let most = never_more test (range_with_len 0 limit) in omega (arith, more, most, length-range_with_len 0 limit)

-- so a job makes no more steps than any number of them after which it is over
count_within : (sources : Sources) (steps : ℕ) → is_last sources steps ≡ true → step_count sources ≤ steps
unfolding step_count
count_within sources steps over = least_within (is_last sources) step_limit steps over

-- a netlist with a fault is over at once
faulty : (sources : Sources) (fault : BlifFault) → circuit_in sources ≡ Err fault → step_count sources ≤ 0
faulty sources fault is = count_within sources 0 (ap (λ circuit. is_whole_value (value_of sources circuit 0)) is)

packing_few : (sources : Sources) → sources.kind ≡ Packing → AreRead sources → (r : Result Circuit BlifFault) → circuit_in sources ≡ r → step_count sources ≤ 8192
packing_few sources kind are (Err fault) is = let none = faulty sources fault is in omega (arith, none)
packing_few sources kind are (Ok circuit) is =
    let P : Result Circuit BlifFault → Type 0 = λ r. IfOk r IsCircuit in
    let lawful : IsCircuit circuit = subst P is are.circuit in
    let few : packing_steps circuit sources.arch ≤ 8192 = few_steps circuit sources.arch lawful are.arch in
    let count = count_within sources (packing_steps circuit sources.arch) (packing_ends sources circuit (packing_steps circuit sources.arch) kind is refl) in
    omega (arith, few, count)

by_kind : (kind : JobKind) (sources : Sources) → sources.kind ≡ kind → AreRead sources → step_count sources ≤ most_steps kind sources.strip
by_kind Packing sources is are = packing_few sources is are (circuit_in sources) refl
by_kind Placing sources is are =
    count_within sources (sources.strip.width + sources.strip.rows + 1) (over_past_last sources (sources.strip.width + sources.strip.rows + 1) is few_passes (omega arith))
by_kind Routing sources is are = count_within sources 30 (over_by_thirty sources 30 is refl)

pub are_few : AreFew
are_few sources are = by_kind sources.kind sources refl are

pub flow_is_short : FlowIsShort
flow_is_short packing placing routing is_packing is_placing is_routing packing_read placing_read routing_read width rows =
    let one = by_kind Packing packing is_packing packing_read in
    let two = by_kind Placing placing is_placing placing_read in
    let three = by_kind Routing routing is_routing routing_read in
    omega (arith, one, two, three, width, rows)
