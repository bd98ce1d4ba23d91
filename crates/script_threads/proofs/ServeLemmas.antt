-- The parts of a script that is served.
use Rattle.script_threads.proofs.Prelude.{Result, arith, IfOk}

pub on_value : {E A : Type 0} {P Q : A → Type 0} (r : Result A E) → ((a : A) → P a → Q a) → IfOk r P → IfOk r Q
on_value r f p = grind arith
