-- A job's value after one more step.
use Rattle.job_state.proofs.Prelude.{ℕ, ◌≡◌, Result, Ok, arith, BlifFault, Sources, Work, StandsFor, basis_in, graph_for}

-- that work as a job's value
abbrev pub as_value : Work → Result Work BlifFault
as_value work = Ok work

-- ---- the graph of a routing's step is that of its strip

pub own_graph : (sources : Sources) (steps : ℕ) (work : Work) → StandsFor sources steps work → graph_for (basis_in sources) work ≡ basis_in sources
own_graph sources steps work is = grind arith
