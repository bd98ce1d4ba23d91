-- The calls that others make ask nothing in a tenancy's name, evict it not, and take none of its
-- jobs.
use Rattle.same_answers.proofs.Prelude.{◌≡◌, ◌≢◌, ◌≤◌, ℕ, List, [], ◌∷◌, ◌++◌, length, false, Option, Some, refl, sym, subst, arith, ⊤, All, flat_map, bytes_eq, bytes_eq-Decides, All-head, All-tail, JobState, Call, Tenant, SessionLine, Blank, Command, Wait, Refused, StepOutcome, Recorded, Full, Gone, NoMemory, Nothing, Unfit, Answer, Asks, AsksCommand, EndsWait, MadeStep, MakesStep, StepsAndPuts, IsOthers, Holds, PutsHeld, last_id, TakesNone}
use Rattle.tenant_slot.specs.declared.command.Command.{Command as TenantCommand}
use Rattle.service_core.specs.Run.Call.{Evict, Take}
use Rattle.same_answers.proofs.Widths.{AreSparing, Spares}

abbrev pub Elsewhere : ℕ → Call → Type 0
Elsewhere id (Evict t answer) = t ≢ id
Elsewhere id (Tenant t command served) = t ≢ id
Elsewhere id (Take t answer) = t ≢ id
Elsewhere id call = ⊤

abbrev pub AreElsewhere : ℕ → List Call → Type 0
AreElsewhere id [] = ⊤
AreElsewhere id (call ∷ calls) = Elsewhere id call × AreElsewhere id calls

pub of_others : (id : ℕ) (call : Call) → Elsewhere id call → IsOthers id call × TakesNone id call
of_others id call is = grind arith

spares : (id : ℕ) (call : Call) → Elsewhere id call → Spares id call
spares id call is = grind arith

pub elsewhere_sparing : (id : ℕ) (calls : List Call) → AreElsewhere id calls → AreSparing id calls
elsewhere_sparing id [] are = tt
elsewhere_sparing id (call ∷ calls) are = (spares id call are.0, elsewhere_sparing id calls are.1)

elsewhere-append : (id : ℕ) (xs ys : List Call) → AreElsewhere id xs → AreElsewhere id ys → AreElsewhere id (xs ++ ys)
elsewhere-append id [] ys a b = b
elsewhere-append id (x ∷ xs) ys a b = (a.0, elsewhere-append id xs ys a.1 b)

pub to_elsewhere : (id : ℕ) (calls these : List Call) → calls ≡ these → AreElsewhere id these → AreElsewhere id calls
to_elsewhere id calls these is are = subst (AreElsewhere id) (sym is) are

-- a step, the steps of a wait, and a line of a session
puts : (id : ℕ) (job : JobState) (calls : List Call) (outcome : StepOutcome) → StepsAndPuts job calls outcome → AreElsewhere id calls
puts id job calls outcome is = grind arith

taking : (id t : ℕ) (job : JobState) (calls more : List Call) (outcome : StepOutcome) → t ≢ id → StepsAndPuts job more outcome → calls ≡ Take t (Some job) ∷ more → AreElsewhere id calls
taking id t job calls more outcome apart is all = to_elsewhere id calls _ all (apart, puts id job more outcome is)

step : (id t : ℕ) (calls : List Call) (outcome : StepOutcome) → t ≢ id → MakesStep t calls outcome → AreElsewhere id calls
step id t calls outcome apart is = grind arith

pub tried_steps : (id t : ℕ) (tried : List (List Call × StepOutcome)) → t ≢ id → All (λ (x : List Call × StepOutcome). MakesStep t x.0 x.1) tried → AreElsewhere id (flat_map (λ (x : List Call × StepOutcome). x.0) tried)
tried_steps id t [] apart all = tt
tried_steps id t (x ∷ xs) apart all =
    elsewhere-append id x.0 (flat_map (λ (x : List Call × StepOutcome). x.0) xs) (step id t x.0 x.1 apart (All-head (λ (x : List Call × StepOutcome). MakesStep t x.0 x.1) x xs all))
    (tried_steps id t xs apart (All-tail (λ (x : List Call × StepOutcome). MakesStep t x.0 x.1) x xs all))

made_steps : (id t : ℕ) (made : List MadeStep) → t ≢ id → All (λ (m : MadeStep). MakesStep t m.0 (Recorded m.1)) made → AreElsewhere id (flat_map (λ (m : MadeStep). m.0) made)
made_steps id t [] apart all = tt
made_steps id t (m ∷ ms) apart all =
    elsewhere-append id m.0 (flat_map (λ (m : MadeStep). m.0) ms) (step id t m.0 (Recorded m.1) apart (All-head (λ (m : MadeStep). MakesStep t m.0 (Recorded m.1)) m ms all))
    (made_steps id t ms apart (All-tail (λ (m : MadeStep). MakesStep t m.0 (Recorded m.1)) m ms all))

asked : (id t : ℕ) (command : TenantCommand) (calls : List Call) (answer : Answer) → t ≢ id → AsksCommand t command calls answer → AreElsewhere id calls
asked id t command calls answer apart is = to_elsewhere id calls _ is.1 (apart, tt)

end : (id t : ℕ) (last : StepOutcome) (calls : List Call) (answer : Answer) → t ≢ id → EndsWait t last calls answer → AreElsewhere id calls
end id t (Recorded reply) calls answer apart is = asked id t _ calls answer apart is
end id t Full calls answer apart is = asked id t _ calls answer apart is
end id t Gone calls answer apart is = asked id t _ calls answer apart is
end id t NoMemory calls answer apart is = to_elsewhere id calls [] is.0 tt
end id t Nothing calls answer apart is = asked id t _ calls answer apart is
end id t Unfit calls answer apart is = asked id t _ calls answer apart is

pub line_elsewhere : (id t : ℕ) (line : SessionLine) (calls : List Call) (answer : Answer) → t ≢ id → Asks t line calls answer → AreElsewhere id calls
line_elsewhere id t Blank calls answer apart is = to_elsewhere id calls [] is.0 tt
line_elsewhere id t (Refused refusal) calls answer apart is = to_elsewhere id calls [] is.0 tt
line_elsewhere id t (Command command) calls answer apart is = asked id t command calls answer apart is
line_elsewhere id t Wait calls answer apart is =
    let waits = is.3 in
    let steps : AreElsewhere id is.1 =
    to_elsewhere id is.1 _ waits.5 (elsewhere-append id (flat_map (λ (m : MadeStep). m.0) waits.0) waits.1 (made_steps id t waits.0 apart waits.2) (step id t waits.1 is.0 apart waits.3)) in
    to_elsewhere id calls _ is.5 (elsewhere-append id is.1 is.2 steps (end id t is.0 is.2 answer apart is.4))

-- a job that is taken by hand, or put
pub holding : (id t : ℕ) (job : Option JobState) (calls : List Call) → t ≢ id → Holds t job calls → AreElsewhere id calls
holding id t job calls apart is = grind arith

pub putting : (id : ℕ) (job : Option JobState) (calls : List Call) (outcome : StepOutcome) → PutsHeld job calls outcome → AreElsewhere id calls
putting id job calls outcome is = grind arith

-- two names have no id in common
last_id-most : (names : List (List ℕ)) (name : List ℕ) → last_id names name ≤ length names
last_id-most [] name = omega arith
last_id-most (newest ∷ older) name = grind (arith, last_id-most older name)

same_id : (names : List (List ℕ)) (name other : List ℕ) → last_id names name ≢ 0 → last_id names other ≡ last_id names name → other ≡ name
same_id [] name other some is = absurd (some refl)
same_id (newest ∷ older) name other some is = grind (arith, bytes_eq-Decides, last_id-most, same_id older name other)

pub other_id : (names : List (List ℕ)) (name other : List ℕ) (id : ℕ) → last_id names name ≡ id → id ≢ 0 → bytes_eq name other ≡ false → last_id names other ≢ id
other_id names name other id at some differ = grind (arith, same_id, bytes_eq-Decides)

-- a newer name is another's
pub older_id : (names : List (List ℕ)) (name other : List ℕ) → bytes_eq name other ≡ false → last_id (other ∷ names) name ≡ last_id names name
older_id names name other differ = grind (arith, bytes_eq-Decides)
