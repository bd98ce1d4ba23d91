-- Steps of a tenancy's job, one after another, and which calls admit nobody.
use Rattle.operator.proofs.Prelude.{◌≡◌, ℕ, suc, ◌+◌, List, [], ◌∷◌, ◌++◌, length, Option, Some, refl, sym, ap, ◌∙◌, subst, append_assoc, append-nil, length-append, arith, All, ⊤, flat_map, flat_map-append, All-push, Basis, JobState, History, Call, Happens, Run, IsGivenBackTo, Admit, Evict, Move, Take, ServiceState, with_changed, SessionLine, Blank, Command, Wait, Refused, StepOutcome, Recorded, Unfit, Answer, Asks, AsksCommand, EndsWait, MadeStep, MakesStep, StepsAndPuts, Waits, own_graph, own_after, Run-append, Holds, PutsHeld, outcome_text, Steps, Tries, Tried, tried_calls, tried_text}
use Rattle.std.specs.Prelude.{◌≢◌}
use Rattle.tenant_slot.specs.declared.command.Command.{Command as TenantCommand}
use Rattle.operator.proofs.OperatorLemmas.{length-modified}

-- calls that admit nobody
abbrev pub Steady : Call → Type 0
Steady (Admit width answer) = ⊥
Steady (Evict id answer) = ⊥
Steady (Move id offset answer) = ⊥
Steady call = ⊤

abbrev pub AreSteady : List Call → Type 0
AreSteady [] = ⊤
AreSteady (call ∷ calls) = Steady call × AreSteady calls

steady-append : (xs ys : List Call) → AreSteady xs → AreSteady ys → AreSteady (xs ++ ys)
steady-append [] ys a b = b
steady-append (x ∷ xs) ys a b = (a.0, steady-append xs ys a.1 b)

same : (old new : ServiceState) → new ≡ old → length old.histories ≡ length new.histories
same old new is = ap (λ (s : ServiceState). length s.histories) (sym is)

changed : (old new : ServiceState) (id : ℕ) (change : History → History) → new ≡ record old { histories = with_changed old.histories id change } → length old.histories ≡ length new.histories
changed old new id change is = rw is (sym (length-modified old.histories id change))

given : (o : Option History) (old new : ServiceState) (job : JobState) → IsGivenBackTo o old job new → length old.histories ≡ length new.histories
given o old new job is = grind (arith, changed)

lengths-happens : (old new : ServiceState) (call : Call) → Steady call → Happens old call new → length old.histories ≡ length new.histories
lengths-happens old new call never is = grind (arith, changed)

pub lengths-run : (old new : ServiceState) (calls : List Call) → AreSteady calls → Run old calls new → length old.histories ≡ length new.histories
lengths-run old new [] steady run = same old new run
lengths-run old new (call ∷ calls) steady run = lengths-happens old run.0 call steady.0 run.1 ∙ lengths-run run.0 new calls steady.1 run.2

to_steady : (calls these : List Call) → calls ≡ these → AreSteady these → AreSteady calls
to_steady calls these is steady = rw is steady

-- making a step admits nobody
pub steady_puts : (job : JobState) (calls : List Call) (outcome : StepOutcome) → StepsAndPuts job calls outcome → AreSteady calls
steady_puts job calls outcome is = grind arith

taking : (id : ℕ) (job : JobState) (calls more : List Call) (outcome : StepOutcome) → StepsAndPuts job more outcome → calls ≡ Take id (Some job) ∷ more → AreSteady calls
taking id job calls more outcome puts is = to_steady calls _ is (tt, steady_puts job more outcome puts)

pub steady_step : (id : ℕ) (calls : List Call) (outcome : StepOutcome) → MakesStep id calls outcome → AreSteady calls
steady_step id calls outcome is = grind arith

steady_made : (id : ℕ) (made : List MadeStep) → All (λ (m : MadeStep). MakesStep id m.0 (Recorded m.1)) made → AreSteady (flat_map (λ (m : MadeStep). m.0) made)
steady_made id [] all = tt
steady_made id (m ∷ ms) all = steady-append m.0 _ (steady_step id m.0 (Recorded m.1) (all 0 m (omega arith))) (steady_made id ms (λ k d within. all (suc k) d (omega arith)))

steady_command : (id : ℕ) (command : TenantCommand) (calls : List Call) (answer : Answer) → AsksCommand id command calls answer → AreSteady calls
steady_command id command calls answer is = to_steady calls _ is.1 (tt, tt)

steady_end : (id : ℕ) (last : StepOutcome) (calls : List Call) (answer : Answer) → EndsWait id last calls answer → AreSteady calls
steady_end id last calls answer is = grind arith

steady_wait : (id : ℕ) (calls : List Call) (last : StepOutcome) → Waits id calls last → AreSteady calls
steady_wait id calls last is = to_steady calls _ is.5 (steady-append _ is.1 (steady_made id is.0 is.2) (steady_step id is.1 last is.3))

-- nor does any line of a session
pub steady_asks : (id : ℕ) (line : SessionLine) (calls : List Call) (answer : Answer) → Asks id line calls answer → AreSteady calls
steady_asks id Blank calls answer is = to_steady calls [] is.0 tt
steady_asks id (Refused refusal) calls answer is = to_steady calls [] is.0 tt
steady_asks id (Command command) calls answer is = steady_command id command calls answer is
steady_asks id Wait calls answer is = to_steady calls _ is.5 (steady-append is.1 is.2 (steady_wait id is.1 is.0 is.3) (steady_end id is.0 is.2 answer is.4))

pub steady_held : (job : Option JobState) (calls : List Call) (outcome : StepOutcome) → PutsHeld job calls outcome → AreSteady calls
steady_held job calls outcome is = grind arith

-- nor does taking a job
pub steady_take : (id : ℕ) (job : Option JobState) (calls : List Call) → Holds id job calls → AreSteady calls
steady_take id job calls is = grind arith

-- no step is tried
pub steps_none : (graph : Basis) (service : ServiceState) (id : ℕ) (before : List ℕ) → Steps graph service id 0 before before service
steps_none graph service id before = record {
  tries = record { tried = []; counted = refl; makes = λ k d within. absurd (omega arith); runs = refl; even = refl; fits = λ own k d within. absurd (omega arith) };
  told = sym (append-nil before);
}

-- one more step is tried
pub tries_more : (graph : Basis) (old mid new : ServiceState) (id count : ℕ) (calls : List Call) (outcome : StepOutcome) →
    Tries graph old id count mid → MakesStep id calls outcome → Run mid calls new → (graph ≡ own_graph mid.device → outcome ≢ Unfit) → Tries graph old id (count + 1) new
tries_more graph old mid new id count calls outcome s makes runs fits =
    let t : List Call × StepOutcome = (calls, outcome) in
    let flat : tried_calls (s.tried ++ t ∷ []) ≡ tried_calls s.tried ++ calls =
    flat_map-append (λ (t : List Call × StepOutcome). t.0) s.tried (t ∷ []) ∙ ap (λ cs. tried_calls s.tried ++ cs) (append-nil calls) in
    record {
      tried = s.tried ++ t ∷ [];
      counted = length-append s.tried (t ∷ []) ∙ ap (λ n. n + 1) s.counted;
      makes = All-push (λ (t : List Call × StepOutcome). MakesStep id t.0 t.1) s.tried t s.makes makes;
      runs = (let P : List Call → Type 0 = λ cs. Run old cs new in subst P (sym flat) (Run-append old (tried_calls s.tried) mid calls new s.runs runs));
      even = sym (lengths-run mid new calls (steady_step id calls outcome makes) runs) ∙ s.even;
      fits = λ own. All-push (λ (t : List Call × StepOutcome). t.1 ≢ Unfit) s.tried t (s.fits own) (fits (own_after old (tried_calls s.tried) mid graph s.runs own));
    }

pub steps_more : (graph : Basis) (old mid new : ServiceState) (id count : ℕ) (before middle after : List ℕ) (calls : List Call) (outcome : StepOutcome) →
    Steps graph old id count before middle mid → MakesStep id calls outcome → Run mid calls new → after ≡ middle ++ outcome_text outcome → (graph ≡ own_graph mid.device → outcome ≢ Unfit) →
    Steps graph old id (count + 1) before after new
unfolding tries_more
steps_more graph old mid new id count before middle after calls outcome s makes runs told fits =
    let tried : Tried = s.tries.tried in
    let t : List Call × StepOutcome = (calls, outcome) in
    let text : tried_text (tried ++ t ∷ []) ≡ tried_text tried ++ outcome_text outcome =
    flat_map-append (λ (t : List Call × StepOutcome). outcome_text t.1) tried (t ∷ []) ∙ ap (λ line. tried_text tried ++ line) (append-nil (outcome_text outcome)) in
    record {
      tries = tries_more graph old mid new id count calls outcome s.tries makes runs fits;
      told = told ∙ ap (λ line. line ++ outcome_text outcome) s.told ∙ append_assoc before (tried_text tried) (outcome_text outcome) ∙ ap (λ line. before ++ line) (sym text);
    }
