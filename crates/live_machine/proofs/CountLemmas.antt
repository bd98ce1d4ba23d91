-- A step that counts.
use Rattle.live_machine.proofs.Prelude.{◌≡◌, ℕ, List, true, Option, Some, arith, option_map, JobStep, IsGivenBack, live_of-changed, LiveState, is_busy, Counts}
use Rattle.std.specs.Prelude.{is_some}

some_mapped : {A B C : Type 0} (o : Option A) (f : A → B) (g : B → C) (x : C) → option_map g (option_map f o) ≡ Some x → is_some o ≡ true
some_mapped o f g x is = grind arith

pub counts_after : (old new : LiveState) (done : JobStep) (name : List ℕ) → Counts old done name → IsGivenBack old.stage.service (record { step = done; made = true }) new.stage.service → new.stage.names ≡ old.stage.names → is_busy new name ≡ true
counts_after old new done name counts given names = search (live_of-changed, arith)
