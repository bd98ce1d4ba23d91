-- A step that is made and put gives no job back.
use Rattle.sessions.proofs.Prelude.{◌≡◌, ℕ, List, [], ◌∷◌, ◌++◌, suc, arith, All, flat_map, Call, Admit, Evict, Move, Tenant, Take, Put, GiveBack, Owners, StepOutcome, Recorded, Unfit, GivesNoneBack, MadeStep, MakesStep, Waits}
use Rattle.sessions.specs.declared.steps.StepOutcome.TheVariants.{NoMemory}

pub none_back-append : (xs ys : List Call) → GivesNoneBack xs → GivesNoneBack ys → GivesNoneBack (xs ++ ys)
none_back-append [] ys a b = b
none_back-append (Admit width answer ∷ xs) ys a b = none_back-append xs ys a b
none_back-append (Evict id answer ∷ xs) ys a b = none_back-append xs ys a b
none_back-append (Move id offset answer ∷ xs) ys a b = none_back-append xs ys a b
none_back-append (Tenant id command served ∷ xs) ys a b = none_back-append xs ys a b
none_back-append (Take id job ∷ xs) ys a b = none_back-append xs ys a b
none_back-append (Put done foreign answer ∷ xs) ys a b = none_back-append xs ys a b
none_back-append (GiveBack job ∷ xs) ys a b = absurd a
none_back-append (Owners list ∷ xs) ys a b = none_back-append xs ys a b

pub step_none_back : (id : ℕ) (calls : List Call) (outcome : StepOutcome) → (outcome ≡ NoMemory → ⊥) → (outcome ≡ Unfit → ⊥) → MakesStep id calls outcome → GivesNoneBack calls
step_none_back id calls outcome memory fits is = grind arith

made_none_back : (id : ℕ) (made : List MadeStep) → All (λ (m : MadeStep). MakesStep id m.0 (Recorded m.1)) made → GivesNoneBack (flat_map (λ (m : MadeStep). m.0) made)
made_none_back id [] all = tt
made_none_back id (m ∷ ms) all =
    none_back-append m.0 (flat_map (λ (m : MadeStep). m.0) ms) (step_none_back id m.0 (Recorded m.1) (λ same. cc) (λ same. cc) (all 0 m (omega arith))) (made_none_back id ms (λ k d within. all (suc k) d (omega arith)))

-- nor do the steps of a wait, if its last step was put or there was no step
pub wait_none_back : (id : ℕ) (calls : List Call) (last : StepOutcome) → (last ≡ NoMemory → ⊥) → (last ≡ Unfit → ⊥) → Waits id calls last → GivesNoneBack calls
wait_none_back id calls last memory fits is = grind (arith, none_back-append, made_none_back id is.0 is.2)
