-- The calls of a line of the operator are a run of the core.
use Rattle.operator.proofs.Prelude.{ℕ, List, [], arith, Call, Run, OperatorLine, Stage, IsServed}

-- the calls are a run of the core
pub served_runs : (old : Stage) (line : OperatorLine (List ℕ)) (calls : List Call) (text : List ℕ) (new : Stage) → IsServed old line calls text new → Run old.service calls new.service
served_runs old line calls text new is = grind arith
