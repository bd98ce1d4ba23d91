-- Texts whose last part is written.
use Rattle.desk_replies.proofs.Prelude.{result_or, Outcome, ℕ, Bool, List, Option, Result, Ok, Err, OnOk, TakesAll, Writes, Failed}
use Rattle.std.specs.Result.{IfOk}

-- what follows if a text is written
pub ok_after : {S : Type 0} {contents : S → Option (List ℕ)} {has_failed : S → Bool} {a b : S} {text : List ℕ} (r : Result (Unit {0}) Failed) (Q : Type 0) → Writes contents has_failed a b text r → (TakesAll contents has_failed a b text → Q) → OnOk r Q
ok_after (Ok u) Q w f = f w
ok_after (Err failed) Q w f = tt

-- a text that is written, or another error in place of that of its sink
pub or_outcome : (P : Type 0) (r : Result (Unit {0}) Failed) (outcome : Outcome) → OnOk r P → OnOk (result_or r (Err outcome)) P
or_outcome P (Ok u) outcome h = h
or_outcome P (Err failed) outcome h = tt

-- what follows from three facts of a success
pub all_ok : {T E : Type 0} (r : Result T E) (P Q R S : T → Type 0) → ((x : T) → P x → Q x → R x → S x) → IfOk r P → IfOk r Q → IfOk r R → IfOk r S
all_ok (Ok x) P Q R S f p q r = f x p q r
all_ok (Err e) P Q R S f p q r = tt
