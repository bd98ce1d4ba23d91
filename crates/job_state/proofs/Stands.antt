-- What a job has after a number of steps.
use Rattle.job_state.proofs.Prelude.{ℕ, ◌≡◌, ◌+◌, true, false, Ok, arith, Sources, Work, StandsFor, is_last, job_value, IsLeft, next_work}
use Rattle.job_state.specs.Steps.{kind_of}

-- a job's value represents itself
pub as_stands : (sources : Sources) (steps : ℕ) (work : Work) → job_value sources steps ≡ Ok work → StandsFor sources steps work
as_stands sources steps work is = grind arith

-- at the job's end it is the job's value
pub stands_over : (sources : Sources) (steps : ℕ) (work : Work) → StandsFor sources steps work → is_last sources steps ≡ true → job_value sources steps ≡ Ok work
stands_over sources steps work is last = grind arith

-- the value after one more step
pub stands_next : (sources : Sources) (steps : ℕ) (work : Work) → StandsFor sources steps work → is_last sources steps ≡ false → job_value sources (steps + 1) ≡ Ok (next_work work)
stands_next sources steps work is going = search arith

kept : (sources : Sources) (steps : ℕ) (old new : Work) → StandsFor sources steps old → new ≡ old → StandsFor sources steps new
kept sources steps old new is same = rw same is

-- the state that a step leaves if memory runs out
pub stands_left : (sources : Sources) (steps : ℕ) (old new : Work) → StandsFor sources steps old → is_last sources steps ≡ false → IsLeft old new → StandsFor sources steps new
stands_left sources steps old new is going left = grind arith

-- it is work of the job's kind
pub stands_kind : (sources : Sources) (steps : ℕ) (work : Work) → StandsFor sources steps work → kind_of work ≡ sources.kind
stands_kind sources steps work is = grind arith
