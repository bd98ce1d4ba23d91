-- A line of a name that isn't held.
use Rattle.live_machine.proofs.Prelude.{◌≡◌, ℕ, List, false, None, arith, asked_of, Says, held_of, MachineState, Serves, must_wait, Line}
use Rattle.live_machine.specs.Machine.{Happens}

pub at_once : (old new : MachineState) (name said line : List ℕ) → asked_of line ≡ Says name said → held_of old.held name ≡ None → must_wait old.live name line ≡ false → Happens old (Line line) new → Serves old line new
at_once old new name said line is free now happens = grind arith
