-- Steps by hand, one after another, whatever workers have.
use Rattle.live_machine.proofs.Prelude.{◌≡◌, ℕ, List, [], ◌∷◌, length, map, sym, ap, ◌∙◌, arith, All, flat_map, length-map, All-cons, All-head, All-map, All-nil, All-same, All-tail, flat_map-map, Call, Run, ServiceState, StepOutcome, MakesStep, split, Run-append, all_here}
use Rattle.live_machine.proofs.HereHome.{IsAtHome, same_home}
use Rattle.live_machine.proofs.HereMade.{remade}
use Rattle.live_machine.proofs.HereStays.{stays_home}

-- the calls of steps, each with what it results in
abbrev pub calls_in : (X : Type 0) → List (List Call × X) → List Call
calls_in X steps = flat_map (λ (s : List Call × X). s.0) steps

abbrev pub results_in : (X : Type 0) → List (List Call × X) → List X
results_in X steps = map (λ (s : List Call × X). s.1) steps

abbrev pub AreMade : (X : Type 0) → (X → StepOutcome) → ℕ → List (List Call × X) → Type 0
AreMade X outcome_of id steps = All (λ (s : List Call × X). MakesStep id s.0 (outcome_of s.1)) steps

-- the same steps, of the service without workers
pub record Retried (X : Type 0) (outcome_of : X → StepOutcome) (old : ServiceState) (id : ℕ) (tried : List (List Call × X)) (new : ServiceState) : Type 0 where
  pub again : List (List Call × X)
  pub same : results_in X again ≡ results_in X tried
  pub made : AreMade X outcome_of id again
  pub runs : Run (all_here old) (calls_in X again) (all_here new)
  pub home : IsAtHome new id

pub retried : (X : Type 0) (outcome_of : X → StepOutcome) (old : ServiceState) (id : ℕ) (tried : List (List Call × X)) (new : ServiceState) → IsAtHome old id → AreMade X outcome_of id tried → Run old (calls_in X tried) new → Retried X outcome_of old id tried new
retried X outcome_of old id [] new home made same = grind (arith, All-nil, same_home)
retried X outcome_of old id (t ∷ tried) new home made runs =
    let P : List Call × X → Type 0 = λ s. MakesStep id s.0 (outcome_of s.1) in
    let (mid, first, rest) = split old t.0 (calls_in X tried) new runs in
    let makes : P t = All-head P t tried made in
    let (calls, makes_again, run) = remade old id t.0 (outcome_of t.1) mid home makes first in
    let r : Retried X outcome_of mid id tried new = retried X outcome_of mid id tried new (stays_home old id t.0 (outcome_of t.1) mid home makes first) (All-tail P t tried made) rest in
    record {
      again = (calls, t.1) ∷ r.again;
      same = ap (λ xs. t.1 ∷ xs) r.same;
      made = All-cons P (calls, t.1) r.again makes_again r.made;
      runs = Run-append (all_here old) calls (all_here mid) (calls_in X r.again) (all_here new) run r.runs;
      home = r.home;
    }

pub same_count : (X : Type 0) (again tried : List (List Call × X)) → results_in X again ≡ results_in X tried → length again ≡ length tried
same_count X again tried same = sym (length-map again (λ (s : List Call × X). s.1)) ∙ (ap length same ∙ length-map tried (λ (s : List Call × X). s.1))

-- what is said of each result
each_result : (X : Type 0) (P : X → Type 0) (steps : List (List Call × X)) → All P (results_in X steps) → All (λ (s : List Call × X). P s.1) steps
each_result X P [] all = All-nil (λ (s : List Call × X). P s.1)
each_result X P (s ∷ steps) all = All-cons (λ (t : List Call × X). P t.1) s steps (All-head P s.1 (results_in X steps) all) (each_result X P steps (All-tail P s.1 (results_in X steps) all))

pub same_each : (X : Type 0) (P : X → Type 0) (again tried : List (List Call × X)) → results_in X again ≡ results_in X tried → All (λ (s : List Call × X). P s.1) tried → All (λ (s : List Call × X). P s.1) again
same_each X P again tried same all = each_result X P again (All-same P (results_in X again) (results_in X tried) same (All-map P (λ (s : List Call × X). s.1) tried all))

-- and told of them
pub same_text : (X : Type 0) (text_of : X → List ℕ) (again tried : List (List Call × X)) → results_in X again ≡ results_in X tried → flat_map (λ (s : List Call × X). text_of s.1) again ≡ flat_map (λ (s : List Call × X). text_of s.1) tried
same_text X text_of again tried same =
    sym (flat_map-map text_of (λ (s : List Call × X). s.1) again)
    ∙ (ap (flat_map text_of) same
    ∙ flat_map-map text_of (λ (s : List Call × X). s.1) tried)
