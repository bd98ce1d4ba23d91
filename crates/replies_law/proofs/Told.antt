-- Which admissions were granted, by their answers.
use Rattle.replies_law.proofs.Prelude.{◌≡◌, ℕ, Bool, List, [], ◌∷◌, map, codes, Option, Result, refl, arith, digits, is_some, OpRefusal, History, op_refusal_number, op_refusal_text, Call, Admit as AdmitCall, Act, admitted_text, refused_text, IsAdmission, Stage, after_prefix, IsAnswered, Telling, Tells, AreGranted, IsGranted, is_admitted, grants, own_tellings}
use Rattle.service_core.specs.declared.op_refusal.OpRefusal.TheVariants as Op
use Rattle.replies_law.proofs.Seats.{AreGiven, IsGiven, admits, given_to}

abbrev told_ok : List ℕ → Bool
told_ok text = is_some (after_prefix (codes "ok") text)

answer_told : (answer : Result (ℕ × ℕ) OpRefusal) (width : ℕ) → admits (AdmitCall width answer ∷ []) ≡ told_ok (admitted_text answer)
answer_told answer width = grind arith

admission_told : (o : Option History) (old new : Stage) (name : List ℕ) (width : ℕ) (calls : List Call) (text : List ℕ) → IsAdmission o old name width calls text new → admits calls ≡ told_ok text
admission_told o old new name width calls text is = grind arith

other_refusal : (refusal : OpRefusal) → refused_text (op_refusal_number refusal) (op_refusal_text refusal) ≡ refused_text 7 (codes "NameInUse") → ⊥
unfolding digits
other_refusal refusal same = grind arith

other_answer : (answer : Result (ℕ × ℕ) OpRefusal) → admitted_text answer ≡ refused_text 7 (codes "NameInUse") → ⊥
other_answer answer same = grind (arith, other_refusal)

in_use_told : (o : Option History) (old new : Stage) (name : List ℕ) (width : ℕ) (calls : List Call) (text : List ℕ) → IsAdmission o old name width calls text new → text ≡ refused_text 7 (codes "NameInUse") → calls ≡ []
in_use_told o old new name width calls text is told = grind (arith, other_answer)

act_told : (old new : Stage) (act : Act (List ℕ)) (calls : List Call) (text : List ℕ) → IsAnswered old act calls text new → given_to act calls ≡ is_admitted act text
act_told old new act calls text is = grind (arith, admission_told)

act_given : (columns : ℕ) (old new : Stage) (act : Act (List ℕ)) (calls : List Call) (text : List ℕ) → IsAnswered old act calls text new → IsGranted columns act text → IsGiven columns act calls
act_given columns old new act calls text is told = grind (arith, in_use_told, admission_told)

-- and all acts of a name
pub grants_told : (name : List ℕ) (old last : Stage) (ts : List Telling) → Tells old ts last → map (λ t. given_to t.act t.calls) (own_tellings name ts) ≡ grants name ts
grants_told name old last [] tells = refl
grants_told name old last (t ∷ ts) tells = grind (arith, act_told, grants_told name tells.0 last ts tells.2)

pub are_given : (columns : ℕ) (name : List ℕ) (old last : Stage) (ts : List Telling) → Tells old ts last → AreGranted columns (own_tellings name ts) → AreGiven columns (own_tellings name ts)
are_given columns name old last [] tells are = tt
are_given columns name old last (t ∷ ts) tells are = grind (arith, act_given, are_given columns name tells.0 last ts tells.2)
