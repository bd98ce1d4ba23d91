-- What a job that is over has made.
use Rattle.job_state.proofs.Prelude.{ℕ, ◌≡◌, ◌≤◌, ◌<◌, Bool, true, false, Result, Ok, Err, IfOk, if◌then◌else◌, sym, ap, ◌∙◌, arith, Circuit, BlifFault, PackedCircuit, packed_of, PlacingUnderWay, is_past_last, JobKind, Packing as PackingJob, Placing as PlacingJob, Sources, Work, Packed, Placed, HasFewSteps, IsNotOverBefore, circuit_in, end_value, is_last, is_whole, is_whole_value, job_value, pass_count, placing_at, value_of, work_of}
use Rattle.job_state.specs.declared.sources.JobKind.TheVariants.{Routing as RoutingJob}
use Rattle.job_state.specs.declared.work.Work.TheVariants.{Placing}
use Rattle.job_state.proofs.StepCounts.{few_made, pass_count_is, step_count_is}

-- what a job has made when it is over is its end value
pub made_at_end : (sources : Sources) (steps : ℕ) (work : Work) → HasFewSteps sources → IsNotOverBefore sources steps → is_last sources steps ≡ true → job_value sources steps ≡ Ok work → end_value sources ≡ Ok work
made_at_end sources steps work few before at is = ap (λ count. job_value sources count) (step_count_is sources steps few before at) ∙ is

packed_work : (kind : JobKind) (sources : Sources) (circuit : Circuit) (steps : ℕ) (packed : PackedCircuit) → kind ≡ PackingJob → work_of kind sources circuit steps ≡ Packed packed → packed ≡ packed_of circuit sources.arch
packed_work kind sources circuit steps packed k is = grind arith

-- placings
whole_either : (placing : PlacingUnderWay) (finished : Bool) → is_whole (if finished then Placed placing else Placing placing) ≡ finished
whole_either placing finished = grind arith

placed_either : (placing placed : PlacingUnderWay) (finished : Bool) → (if finished then Placed placing else Placing placing) ≡ Placed placed → placed ≡ placing
placed_either placing placed finished is = grind arith

module _ (sources : Sources) (circuit : Circuit) where
  -- a placing is whole once it has made its number of passes
  pub placing_whole : (kind : JobKind) (steps : ℕ) → kind ≡ PlacingJob → is_whole (work_of kind sources circuit steps) ≡ is_past_last sources.strip steps
  placing_whole PackingJob steps k = absurd (cc)
  placing_whole PlacingJob steps k = whole_either (placing_at sources circuit steps) (is_past_last sources.strip steps)
  placing_whole RoutingJob steps k = absurd (cc)

  placed_work : (kind : JobKind) (steps : ℕ) (placed : PlacingUnderWay) → kind ≡ PlacingJob → work_of kind sources circuit steps ≡ Placed placed → placed ≡ placing_at sources circuit steps
  placed_work PackingJob steps placed k is = absurd (cc)
  placed_work PlacingJob steps placed k is = placed_either (placing_at sources circuit steps) placed (is_past_last sources.strip steps) is
  placed_work RoutingJob steps placed k is = absurd (cc)

placed_value : (sources : Sources) (circuit : Result Circuit BlifFault) (steps : ℕ) (placed : PlacingUnderWay) → sources.kind ≡ PlacingJob → steps ≤ 8192 →
    ((fewer : ℕ) → fewer < steps → is_whole_value (value_of sources circuit fewer) ≡ false) → is_whole_value (value_of sources circuit steps) ≡ true → value_of sources circuit steps ≡ Ok (Placed placed) →
    IfOk circuit (λ circuit. placed ≡ placing_at sources circuit (pass_count sources.strip))
placed_value sources (Ok circuit) steps placed kind few before at is =
    let whole = placing_whole sources circuit sources.kind in
    let count : pass_count sources.strip ≡ steps = pass_count_is sources.strip steps few (λ fewer less. sym (whole fewer kind) ∙ before fewer less) (sym (whole steps kind) ∙ at) in
    placed_work sources circuit sources.kind steps placed kind (cc) ∙ ap (λ passes. placing_at sources circuit passes) (sym count)
placed_value sources (Err fault) steps placed kind few before at is = tt

pub placed_made : (sources : Sources) (steps : ℕ) (placed : PlacingUnderWay) → sources.kind ≡ PlacingJob → HasFewSteps sources → IsNotOverBefore sources steps → is_last sources steps ≡ true →
    job_value sources steps ≡ Ok (Placed placed) → IfOk (circuit_in sources) (λ circuit. placed ≡ placing_at sources circuit (pass_count sources.strip))
placed_made sources steps placed kind few before at is = placed_value sources (circuit_in sources) steps placed kind (few_made sources steps few.0 before few.2 few.1) before at is
