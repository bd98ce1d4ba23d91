-- Acts that aren't answered that memory ran out make calls for which there was memory.
use Rattle.replies_law.proofs.Prelude.{◌≡◌, ◌≢◌, ◌∙◌, ℕ, List, [], ◌∷◌, ◌++◌, Option, Some, None, Result, Err, inl, inr, sym, ap, subst, append_assoc, arith, All, flat_map, All-head, All-tail, JobState, Command as TenantCommand, NotServed, History, Receipted, Call, Admit as AdmitCall, Tenant, GiveBack, ServiceState, live_of, run_device, SessionLine, Blank, Wait, Refused, StepOutcome, Recorded, Full, Gone, NoMemory, Nothing, Unfit, Answer, Served, Asks, AsksCommand, EndsWait, GivesNoneBack, LeavesNone, MadeStep, MakesStep, Act, Operator, OperatorLine, Evict, Move, Owners, Step, Take, Put, Holds, admitted_text, last_id, outcome_text, HasOwnGraph, IsAdmission, IsServed, Stage, IsAnswered, Telling, Tells, own_tellings, HaveMemory, RanOut}
use Rattle.service_core.specs.declared.not_served.NotServed.TheVariants.{NoMemory as NotServedNoMemory}
use Rattle.service_core.specs.declared.op_refusal.OpRefusal.TheVariants as Op
use Rattle.service_core.specs.Run.Call.{Evict as EvictCall, Move as MoveCall, Take as TakeCall, Put as PutCall, Owners as OwnersCall}
use Rattle.sessions.specs.declared.line.SessionLine.TheVariants.{Command}
use Rattle.script_text.specs.declared.operator_line.OperatorLine.TheVariants.{Admit, List as ListAll}
use Rattle.replies_law.proofs.Found.{AllHadMemory, HadMemory}

abbrev Not : Type 0 → Type 0
Not A = A → ⊥

to_had : (calls these : List Call) → calls ≡ these → HadMemory these → HadMemory calls
to_had calls these is had = subst HadMemory (sym is) had

had-append : (xs ys : List Call) → HadMemory xs → HadMemory ys → HadMemory (xs ++ ys)
had-append [] ys a b = b
had-append (x ∷ xs) ys a b = (a.0, had-append xs ys a.1 b)

step_had : (id : ℕ) (calls : List Call) (outcome : StepOutcome) → Not (outcome ≡ NoMemory) → Not (outcome ≡ Unfit) → MakesStep id calls outcome → HadMemory calls
step_had id calls outcome memory fits is = grind arith

made_had : (id : ℕ) (made : List MadeStep) → All (λ (m : MadeStep). MakesStep id m.0 (Recorded m.1)) made → HadMemory (flat_map (λ (m : MadeStep). m.0) made)
made_had id [] all = tt
made_had id (m ∷ ms) all =
    had-append m.0 _ (step_had id m.0 (Recorded m.1) (λ same. cc) (λ same. cc) (All-head (λ (m : MadeStep). MakesStep id m.0 (Recorded m.1)) m ms all))
    (made_had id ms (All-tail (λ (m : MadeStep). MakesStep id m.0 (Recorded m.1)) m ms all))

-- if calls give no job back, nor do the calls after the first
none_back-rest : (call : Call) (calls : List Call) → GivesNoneBack (call ∷ calls) → GivesNoneBack calls
none_back-rest call calls none = grind arith

none_back-right : (xs ys : List Call) → GivesNoneBack (xs ++ ys) → GivesNoneBack ys
none_back-right [] ys none = none
none_back-right (x ∷ xs) ys none = none_back-right xs ys (none_back-rest x (xs ++ ys) none)

none_back-left : (xs ys : List Call) → GivesNoneBack (xs ++ ys) → GivesNoneBack xs
none_back-left [] ys none = tt
none_back-left (AdmitCall width answer ∷ xs) ys none = none_back-left xs ys none
none_back-left (EvictCall id answer ∷ xs) ys none = none_back-left xs ys none
none_back-left (MoveCall id offset answer ∷ xs) ys none = none_back-left xs ys none
none_back-left (Tenant id command served ∷ xs) ys none = none_back-left xs ys none
none_back-left (TakeCall id job ∷ xs) ys none = none_back-left xs ys none
none_back-left (PutCall done foreign answer ∷ xs) ys none = none_back-left xs ys none
none_back-left (GiveBack job ∷ xs) ys none = absurd none
none_back-left (OwnersCall list ∷ xs) ys none = none_back-left xs ys none

-- a command whose answer isn't that memory ran out
served_had : (id : ℕ) (command : TenantCommand) (served : Result Receipted NotServed) → Not (Served served ≡ Served (Err NotServedNoMemory)) → HadMemory (Tenant id command served ∷ [])
served_had id command served memory = grind arith

command_had : (id : ℕ) (command : TenantCommand) (calls : List Call) (answer : Answer) → Not (answer ≡ Served (Err NotServedNoMemory)) → AsksCommand id command calls answer → HadMemory calls
command_had id command calls answer memory is = to_had calls _ is.1 (served_had id command is.0 (λ same. memory (is.2 ∙ same)))

-- the last step of a wait gives no job back, and so doesn't run out of memory
end_had : (id : ℕ) (calls : List Call) (last : StepOutcome) (more : List Call) (answer : Answer) → Not (answer ≡ Served (Err NotServedNoMemory)) → MakesStep id calls last → EndsWait id last more answer → GivesNoneBack calls → HadMemory calls × HadMemory more
end_had id calls (Recorded reply) more answer memory makes ends none = (step_had id calls (Recorded reply) (λ same. cc) (λ same. cc) makes, command_had id _ more answer memory ends)
end_had id calls Full more answer memory makes ends none = (step_had id calls Full (λ same. cc) (λ same. cc) makes, command_had id _ more answer memory ends)
end_had id calls Gone more answer memory makes ends none = (step_had id calls Gone (λ same. cc) (λ same. cc) makes, command_had id _ more answer memory ends)
end_had id calls NoMemory more answer memory makes ends none = absurd (memory ends.1)
end_had id calls Nothing more answer memory makes ends none = (step_had id calls Nothing (λ same. cc) (λ same. cc) makes, command_had id _ more answer memory ends)
end_had id calls Unfit more answer memory makes ends none =
    let all : calls ≡ TakeCall id (Some makes.0) ∷ GiveBack makes.0 ∷ [] = makes.3 ∙ ap (λ cs. TakeCall id (Some makes.0) ∷ cs) makes.2 in
    absurd (subst GivesNoneBack all none)

wait_had : (id : ℕ) (calls : List Call) (answer : Answer) → Not (answer ≡ Served (Err NotServedNoMemory)) → Asks id Wait calls answer → GivesNoneBack calls → HadMemory calls
wait_had id calls answer memory asks none =
    let waits = asks.3 in
    let made = flat_map (λ (m : MadeStep). m.0) waits.0 in
    let all : calls ≡ (made ++ waits.1) ++ asks.2 = asks.5 ∙ ap (λ cs. cs ++ asks.2) waits.5 in
    let last : GivesNoneBack waits.1 = none_back-right made waits.1 (none_back-left (made ++ waits.1) asks.2 (subst GivesNoneBack all none)) in
    let end = end_had id waits.1 asks.0 asks.2 answer memory waits.3 asks.4 last in
    to_had calls _ all (had-append (made ++ waits.1) asks.2 (had-append made waits.1 (made_had id waits.0 waits.2) end.0) end.1)

line_had : (id : ℕ) (line : SessionLine) (calls : List Call) (answer : Answer) (new : ServiceState) → Not (answer ≡ Served (Err NotServedNoMemory)) → Asks id line calls answer → LeavesNone id line calls answer new → HadMemory calls
line_had id Blank calls answer new memory asks leaves = to_had calls [] asks.0 tt
line_had id (Refused refusal) calls answer new memory asks leaves = to_had calls [] asks.0 tt
line_had id (Command command) calls answer new memory asks leaves = command_had id command calls answer memory asks
line_had id Wait calls answer new memory asks (inl out) = absurd (memory out)
line_had id Wait calls answer new memory asks (inr leaves) = wait_had id calls answer memory asks leaves.0

admission_had : (o : Option History) (old new : Stage) (name : List ℕ) (width : ℕ) (calls : List Call) (text : List ℕ) → IsAdmission o old name width calls text new → Not (text ≡ admitted_text (Err Op.NoMemory)) → HadMemory calls
admission_had o old new name width calls text is memory = grind arith

tried_had : (id : ℕ) (ts : List (List Call × StepOutcome)) → All (λ (t : List Call × StepOutcome). MakesStep id t.0 t.1) ts → All (λ (t : List Call × StepOutcome). t.1 ≢ Unfit) ts →
    Not ((before : List ℕ) × (after : List ℕ) × (flat_map (λ (t : List Call × StepOutcome). outcome_text t.1) ts ≡ before ++ outcome_text NoMemory ++ after)) → HadMemory (flat_map (λ (t : List Call × StepOutcome). t.0) ts)
tried_had id [] all fits memory = tt
tried_had id (t ∷ ts) all fits memory =
    let rest : List ℕ = flat_map (λ (t : List Call × StepOutcome). outcome_text t.1) ts in
    had-append t.0 _
    (step_had id t.0 t.1 (λ (out : t.1 ≡ NoMemory). memory ([], rest, ap (λ o. outcome_text o ++ rest) out)) (All-head (λ (t : List Call × StepOutcome). t.1 ≢ Unfit) t ts fits) (All-head (λ (t : List Call × StepOutcome). MakesStep id t.0 t.1) t ts all))
    (tried_had id ts (All-tail (λ (t : List Call × StepOutcome). MakesStep id t.0 t.1) t ts all) (All-tail (λ (t : List Call × StepOutcome). t.1 ≢ Unfit) t ts fits)
    (λ found. memory (
      outcome_text t.1 ++ found.0,
      found.1,
      ap (λ more. outcome_text t.1 ++ more) found.2
          ∙ (sym (append_assoc (outcome_text t.1) (found.0 ++ outcome_text NoMemory) found.1) ∙ ap (λ before. before ++ found.1) (sym (append_assoc (outcome_text t.1) found.0 (outcome_text NoMemory)))),
    )))

holds_had : (id : ℕ) (job : Option JobState) (calls : List Call) → Holds id job calls → (job ≡ None → calls ≡ TakeCall id None ∷ []) → HadMemory calls
holds_had id job calls holds h2 = grind arith

operator_had : (old new : Stage) (line : OperatorLine (List ℕ)) (calls : List Call) (text : List ℕ) → HasOwnGraph old → IsServed old line calls text new → Not (RanOut (Operator line) text) → HadMemory calls
operator_had old new (Admit name width) calls text own_tellings is memory = admission_had (live_of old.service.histories (last_id old.names name)) old new name width calls text is memory
operator_had old new (Evict name) calls text own_tellings is memory = to_had calls _ is.4 (tt, tt)
operator_had old new (Move name offset) calls text own_tellings is memory = to_had calls _ is.4 (tt, tt)
operator_had old new (Step name count) calls text own_tellings is memory =
    to_had calls _ is.6 (tried_had (last_id old.names name) is.0 is.2 (is.9 own_tellings) (λ found. memory (found.0, found.1, is.7 ∙ found.2)))
operator_had old new (Take name) calls text own_tellings is memory = holds_had (last_id old.names name) is.0 calls is.1 (is.7 own_tellings)
operator_had old new (Put number) calls text own_tellings is memory = grind arith
operator_had old new ListAll calls text own_tellings is memory = to_had calls [] is.0 tt
operator_had old new Owners calls text own_tellings is memory = to_had calls _ is.2 (tt, tt)

act_had : (old new : Stage) (act : Act (List ℕ)) (calls : List Call) (text : List ℕ) → HasOwnGraph old → IsAnswered old act calls text new → Not (RanOut act text) → HadMemory calls
act_had old new act calls text h1 is memory = grind (arith, operator_had, line_had)

own_graph_stays : (old new : Stage) (act : Act (List ℕ)) (calls : List Call) (text : List ℕ) → IsAnswered old act calls text new → HasOwnGraph old → HasOwnGraph new
own_graph_stays old new act calls text is own_tellings = grind (arith, run_device)

-- one after another, of all acts and of a name's own
pub all_had : (old last : Stage) (ts : List Telling) → Tells old ts last → HasOwnGraph old → HaveMemory ts → AllHadMemory ts
all_had old last [] tells own_tellings have = tt
all_had old last (t ∷ ts) tells own_tellings have = grind (arith, act_had, all_had tells.0 last ts tells.2 (own_graph_stays old tells.0 t.act t.calls t.text tells.1 own_tellings) have.1)

pub own_had : (name : List ℕ) (old last : Stage) (ts : List Telling) → Tells old ts last → HasOwnGraph old → HaveMemory (own_tellings name ts) → AllHadMemory (own_tellings name ts)
own_had name old last [] tells graph have = tt
own_had name old last (t ∷ ts) tells graph have = grind (arith, act_had, own_had name tells.0 last ts tells.2 (own_graph_stays old tells.0 t.act t.calls t.text tells.1 graph))
