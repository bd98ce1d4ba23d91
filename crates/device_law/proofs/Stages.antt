-- What holds of each stage of a script's run.
use Rattle.device_law.proofs.Prelude.{◌≡◌, ℕ, zero, suc, ◌<◌, List, [], ◌∷◌, ◌++◌, length, true, Option, refl, sym, ap, ◌∙◌, subst, arith, ⊤, All, flat_map, JobState, Device, History, Call, Happens, Run, IsGivenBackTo, ServiceState, empty_service, live_of, StepOutcome, MakesStep, Run-append, Act, Operator, Session, Admit, Evict, Move, Owners, Step, Take, Put, last_id, IsAdmission, Stage, Tried, tried_calls, lengths-admitted, lengths-evicted, lengths-moved, AreSteady, Steady, lengths-run, steady_asks, steady_step, IsAnswered, answered_runs, is_name}
use Rattle.script_text.specs.declared.operator_line.OperatorLine.TheVariants.{List as ListAll}
use Rattle.device_law.proofs.AdmittedNames.{HasName}
use Rattle.device_law.proofs.Each.{Each}
use Rattle.device_law.proofs.OwnerFacts.{Stands, after_run}

abbrev pub AreNamed : List (List ℕ) → Type 0
AreNamed names = Each (λ name. is_name name ≡ true) names

-- each id has a printable name
pub record IsNamed (stage : Stage) : Type 0 where
  pub even : length stage.names ≡ length stage.service.histories
  pub named : AreNamed stage.names

pub record Fine (device : Device) (stage : Stage) : Type 0 where
  pub before : List Call
  pub runs : Run (empty_service device) before stage.service
  pub names : IsNamed stage

pub stands_in : (device : Device) (stage : Stage) → Fine device stage → Stands device stage.service
stands_in device stage fine = after_run device fine.before stage.service fine.runs

-- calls that admit and evict nobody leave each strip where it is
same : (old new : ServiceState) → new ≡ old → new.plan ≡ old.plan
same old new is = ap (λ (s : ServiceState). s.plan) is

given : (o : Option History) (old new : ServiceState) (job : JobState) → IsGivenBackTo o old job new → new.plan ≡ old.plan
given o old new job is = grind arith

plan-happens : (old new : ServiceState) (call : Call) → Steady call → Happens old call new → new.plan ≡ old.plan
plan-happens old new call never is = grind arith

pub plan-run : (old new : ServiceState) (calls : List Call) → AreSteady calls → Run old calls new → new.plan ≡ old.plan
plan-run old new [] steady run = same old new run
plan-run old new (call ∷ calls) steady run = plan-run run.0 new calls steady.1 run.2 ∙ plan-happens old run.0 call steady.0 run.1

steady-both : (xs ys : List Call) → AreSteady xs → AreSteady ys → AreSteady (xs ++ ys)
steady-both [] ys a b = b
steady-both (x ∷ xs) ys a b = (a.0, steady-both xs ys a.1 b)

pub steady-tried : (id : ℕ) (tried : Tried) → All (λ (t : List Call × StepOutcome). MakesStep id t.0 t.1) tried → AreSteady (tried_calls tried)
steady-tried id [] all = tt
steady-tried id (t ∷ ts) all = steady-both t.0 (tried_calls ts) (steady_step id t.0 t.1 (all 0 t (omega arith))) (steady-tried id ts (λ k d within. all (suc k) d (omega (arith, within))))

-- the names after an act
same_names : (old new : Stage) → new.names ≡ old.names → length old.service.histories ≡ length new.service.histories → IsNamed old → IsNamed new
same_names old new names lengths is = record { even = ap length names ∙ (is.even ∙ lengths); named = subst AreNamed (sym names) is.named }

no_change : (old new : Stage) → new ≡ old → IsNamed old → IsNamed new
no_change old new is named = subst IsNamed (sym is) named

admission_named : (o : Option History) (old new : Stage) (name : List ℕ) (width : ℕ) (calls : List Call) (text : List ℕ) → IsAdmission o old name width calls text new → is_name name ≡ true → IsNamed old → IsNamed new
admission_named o old new name width calls text is printable named = grind (arith, lengths-admitted)

names_next : (old new : Stage) (act : Act (List ℕ)) (calls : List Call) (text : List ℕ) → IsAnswered old act calls text new → HasName act → IsNamed old → IsNamed new
names_next old new (Session name line) calls text is printable named = grind (arith, lengths-run, steady_asks)
names_next old new (Operator (Admit name width)) calls text is printable named = admission_named (live_of old.service.histories (last_id old.names name)) old new name width calls text is printable named
names_next old new (Operator (Evict name)) calls text is printable named = same_names old new is.2 (lengths-evicted old.service new.service (last_id old.names name) is.0 is.1) named
names_next old new (Operator (Move name offset)) calls text is printable named = same_names old new is.2 (lengths-moved old.service new.service (last_id old.names name) offset is.0 is.1) named
names_next old new (Operator (Step name count)) calls text is printable named = grind (arith, lengths-run, steady-tried (last_id old.names name) is.0 is.2)
names_next old new (Operator (Take name)) calls text is printable named = grind (arith, lengths-run)
names_next old new (Operator (Put number)) calls text is printable named = grind (arith, lengths-run)
names_next old new (Operator ListAll) calls text is printable named = no_change old new is.2 named
names_next old new (Operator Owners) calls text is printable named = no_change old new is.4 named

pub fine_next : (device : Device) (old new : Stage) (act : Act (List ℕ)) (calls : List Call) (text : List ℕ) → IsAnswered old act calls text new → HasName act → Fine device old → Fine device new
fine_next device old new act calls text is printable fine = grind (arith, Run-append (empty_service device) fine.before old.service calls new.service fine.runs (answered_runs old act calls text new is), names_next old new act calls text is printable fine.names)
