-- What workers do, call by call.
use Rattle.live_machine.proofs.Prelude.{AllByRecursion, ◌≡◌, ℕ, List, [], ◌∷◌, ◌++◌, Bool, true, Option, Some, None, Result, IfOk, refl, sym, ap, subst, ◌∙◌, arith, StepEnd, Dropped, Machine, Stop, LineServer, PutsIf, PutsStep, machine_of, state_with, EndsPut, EndsStep, HasTurn, HasTurns, IsTurnOf, MachineState, ServeHeld}
use Rattle.live_machine.specs.Machine.{Call, Run}

run_both : (a b c : MachineState) (first more : List Call) → Run a first b → Run b more c → Run a (first ++ more) c
run_both a b c [] more same run = let P : MachineState → Type 0 = λ m. Run m more c in subst P same run
run_both a b c (call ∷ first) more (mid, one, rest) run = (mid, one, run_both mid b c first more rest run)

all_turns : (name : List ℕ) (calls : List Call) (call : Call) → AllByRecursion (IsTurnOf name) calls → IsTurnOf name call → AllByRecursion (IsTurnOf name) (calls ++ call ∷ [])
all_turns name [] call all one = (one, tt)
all_turns name (first ∷ calls) call all one = (all.0, all_turns name calls call all.1 one)

pub turn_more : (name : List ℕ) (a b c : MachineState) (went : Bool) → went ≡ true → HasTurns name a b → HasTurn went name b c → HasTurns name a c
turn_more name a b c went is t one = grind (arith, run_both, all_turns name t.calls (ServeHeld name) t.turns refl)

pub turns_after : (name : List ℕ) (old mid new : MachineState) → mid ≡ old → HasTurns name mid new → HasTurns name old new
turns_after name old mid new same turns = let P : MachineState → Type 0 = λ m. HasTurns name m new in subst P same turns

pub turns_to : (name : List ℕ) (a b c : MachineState) → c ≡ b → HasTurns name a b → HasTurns name a c
turns_to name a b c same turns = let P : MachineState → Type 0 = λ m. HasTurns name a m in subst P (sym same) turns

pub same_state : (a b : Machine) → a.server ≡ b.server → a.held ≡ b.held → machine_of a ≡ machine_of b
same_state a b server held = ap (λ (s : LineServer). state_with s a.held) server ∙ ap (λ h. state_with b.server h) held

pub gives_by : (names : Option (List ℕ)) (name : List ℕ) (old mid new : MachineState) (result : Result StepEnd Stop) → names ≡ Some name → mid ≡ old → IfOk result (λ end. EndsPut end name mid new) → IfOk result (λ end. PutsStep end names old new)
gives_by names name old mid new result is same ends = grind arith

pub puts_none : (names : Option (List ℕ)) (old new : MachineState) → names ≡ None → new ≡ old → PutsStep Dropped names old new
puts_none names old new is same = let P : Option (List ℕ) → Type 0 = λ n. PutsStep Dropped n old new in subst P (sym is) (refl, same)

-- with the same state before
pub ends_by : (made : Bool) (name : List ℕ) (old mid new : MachineState) → mid ≡ old → PutsIf made name mid new → EndsStep (Some made) name old new
ends_by made name old mid new same puts = grind arith
