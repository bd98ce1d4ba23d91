-- The calls made for one tenancy change no other.
use Rattle.replies_law.proofs.Prelude.{◌≡◌, ℕ, ◌≤◌, List, [], ◌∷◌, ◌++◌, length, Option, Some, None, Result, refl, sym, ap, ◌∙◌, subst, arith, ⊤, All, flat_map, bytes_eq-Decides, All-head, All-tail, JobState, Command as TenantCommand, OpRefusal, IsAdmitted, IsEvicted, IsMoved, History, Call, Happens, Run, IsGivenBackTo, Admit, Tenant, GiveBack, ServiceState, live_of, with_changed, if_live, history_of-zero, history_of-modified, history_of-push, same_histories, SessionLine, Blank, Wait, Refused, StepOutcome, Recorded, Answer, Asks, AsksCommand, EndsWait, MadeStep, MakesStep, StepsAndPuts, split, Holds, last_id}
use Rattle.service_core.specs.Run.Call.{Evict, Move, Take, Put, Owners}
use Rattle.sessions.specs.declared.line.SessionLine.TheVariants.{Command}

-- the two ids are of no common tenancy
abbrev pub Apart : ℕ → ℕ → Type 0
Apart t id = t ≡ id → id ≡ 0

-- the tenancy doesn't change
abbrev pub Same : ℕ → ServiceState → ServiceState → Type 0
Same id old new = live_of new.histories id ≡ live_of old.histories id

live_of-zero : (hs : List History) → live_of hs 0 ≡ None
live_of-zero hs = ap if_live (history_of-zero hs)

live_of-other : (hs : List History) (t id : ℕ) (change : History → History) → Apart t id → live_of (with_changed hs t change) id ≡ live_of hs id
live_of-other hs t id change apart = grind (arith, live_of-zero, history_of-modified)

-- a call is made for that tenancy
abbrev pub IsFor : ℕ → Call → Type 0
IsFor t (Admit width answer) = ⊥
IsFor t (Evict id answer) = ⊥
IsFor t (Move id offset answer) = ⊥
IsFor t (Tenant id command served) = id ≡ t
IsFor t (Take id job) = id ≡ t
IsFor t (Put done foreign answer) = done.id ≡ t
IsFor t (GiveBack job) = job.step.id ≡ t
IsFor t (Owners list) = ⊥

abbrev pub AreFor : ℕ → List Call → Type 0
AreFor t [] = ⊤
AreFor t (call ∷ calls) = IsFor t call × AreFor t calls

nothing : (id : ℕ) (old new : ServiceState) → new ≡ old → Same id old new
nothing id old new same = ap (λ (s : ServiceState). live_of s.histories id) same

changed : (id t : ℕ) (old new : ServiceState) (change : History → History) → Apart t id → new ≡ record old { histories = with_changed old.histories t change } → Same id old new
changed id t old new change apart is = ap (λ (s : ServiceState). live_of s.histories id) is ∙ live_of-other old.histories t id change apart

given : (o : Option History) (id : ℕ) (old new : ServiceState) (job : JobState) → Apart job.step.id id → IsGivenBackTo o old job new → Same id old new
given o id old new job apart is = grind (arith, changed)

to : (t u id : ℕ) → u ≡ t → Apart t id → Apart u id
to t u id is apart = λ same. apart (sym is ∙ same)

local_call : (id t : ℕ) (old new : ServiceState) (call : Call) → IsFor t call → Apart t id → Happens old call new → Same id old new
local_call id t old new call never apart is = grind (arith, changed, given)

pub local_calls : (id t : ℕ) (old : ServiceState) (calls : List Call) (new : ServiceState) → AreFor t calls → Apart t id → Run old calls new → Same id old new
local_calls id t old [] new on apart run = nothing id old new run
local_calls id t old (call ∷ calls) new on apart run = local_calls id t run.0 calls new on.1 apart run.2 ∙ local_call id t old run.0 call on.0 apart run.1

-- an admission, an eviction and a move
pub admission_local : (id width : ℕ) (old new : ServiceState) (answer : Result (ℕ × ℕ) OpRefusal) → id ≤ length old.histories → IsAdmitted old width answer new → Same id old new
admission_local id width old new answer within is = grind (arith, history_of-push)

pub eviction_local : (id t : ℕ) (old new : ServiceState) (answer : Result (Unit {0}) OpRefusal) → Apart t id → IsEvicted old t answer new → Same id old new
eviction_local id t old new answer apart is = grind (arith, live_of-other)

pub move_local : (id t offset : ℕ) (old new : ServiceState) (answer : Result (Unit {0}) OpRefusal) → IsMoved old t offset answer new → Same id old new
move_local id t offset old new answer is = ap (λ hs. live_of hs id) (same_histories old t offset answer new is)

-- which tenancy calls are made for
for-append : (t : ℕ) (xs ys : List Call) → AreFor t xs → AreFor t ys → AreFor t (xs ++ ys)
for-append t [] ys a b = b
for-append t (x ∷ xs) ys a b = (a.0, for-append t xs ys a.1 b)

to_for : (t : ℕ) (calls these : List Call) → calls ≡ these → AreFor t these → AreFor t calls
to_for t calls these is on = subst (AreFor t) (sym is) on

pub for_puts : (t : ℕ) (job : JobState) (calls : List Call) (outcome : StepOutcome) → job.step.id ≡ t → StepsAndPuts job calls outcome → AreFor t calls
for_puts t job calls outcome own is = grind arith

-- a job that is taken is its tenancy's
pub taken_own : (t : ℕ) (job : JobState) (old : ServiceState) (calls more : List Call) (new : ServiceState) → calls ≡ Take t (Some job) ∷ more → Run old calls new → job.step.id ≡ t
taken_own t job old calls more new is runs = grind arith

pub for_step : (t : ℕ) (old : ServiceState) (calls : List Call) (new : ServiceState) (outcome : StepOutcome) → MakesStep t calls outcome → Run old calls new → AreFor t calls
for_step t old calls new outcome is runs = grind arith

pub for_tried : (t : ℕ) (ts : List (List Call × StepOutcome)) (old new : ServiceState) → All (λ (x : List Call × StepOutcome). MakesStep t x.0 x.1) ts → Run old (flat_map (λ (x : List Call × StepOutcome). x.0) ts) new → AreFor t (flat_map (λ (x : List Call × StepOutcome). x.0) ts)
for_tried t [] old new all runs = tt
for_tried t (x ∷ xs) old new all runs =
    let rest = flat_map (λ (x : List Call × StepOutcome). x.0) xs in
    let parts = split old x.0 rest new runs in
    for-append t x.0 rest (for_step t old x.0 parts.0 x.1 (All-head (λ (x : List Call × StepOutcome). MakesStep t x.0 x.1) x xs all) parts.1)
    (for_tried t xs parts.0 new (All-tail (λ (x : List Call × StepOutcome). MakesStep t x.0 x.1) x xs all) parts.2)

for_made : (t : ℕ) (ms : List MadeStep) (old new : ServiceState) → All (λ (m : MadeStep). MakesStep t m.0 (Recorded m.1)) ms → Run old (flat_map (λ (m : MadeStep). m.0) ms) new → AreFor t (flat_map (λ (m : MadeStep). m.0) ms)
for_made t [] old new all runs = tt
for_made t (m ∷ ms) old new all runs =
    let rest = flat_map (λ (m : MadeStep). m.0) ms in
    let parts = split old m.0 rest new runs in
    for-append t m.0 rest (for_step t old m.0 parts.0 (Recorded m.1) (All-head (λ (m : MadeStep). MakesStep t m.0 (Recorded m.1)) m ms all) parts.1)
    (for_made t ms parts.0 new (All-tail (λ (m : MadeStep). MakesStep t m.0 (Recorded m.1)) m ms all) parts.2)

for_command : (t : ℕ) (command : TenantCommand) (calls : List Call) (answer : Answer) → AsksCommand t command calls answer → AreFor t calls
for_command t command calls answer is = to_for t calls _ is.1 (refl, tt)

for_end : (t : ℕ) (last : StepOutcome) (calls : List Call) (answer : Answer) → EndsWait t last calls answer → AreFor t calls
for_end t last calls answer is = grind arith

for_wait : (t : ℕ) (old : ServiceState) (calls : List Call) (new : ServiceState) (answer : Answer) → Asks t Wait calls answer → Run old calls new → AreFor t calls
for_wait t old calls new answer asks runs =
    let waits = asks.3 in
    let made = flat_map (λ (m : MadeStep). m.0) waits.0 in
    let all : calls ≡ (made ++ waits.1) ++ asks.2 = asks.5 ∙ ap (λ cs. cs ++ asks.2) waits.5 in
    let whole : Run old ((made ++ waits.1) ++ asks.2) new = (let P : List Call → Type 0 = λ cs. Run old cs new in subst P all runs) in
    let parts = split old (made ++ waits.1) asks.2 new whole in
    let steps = split old made waits.1 parts.0 parts.1 in
    to_for t calls _ all (for-append t (made ++ waits.1) asks.2
    (for-append t made waits.1 (for_made t waits.0 old steps.0 waits.2 steps.1) (for_step t steps.0 waits.1 parts.0 asks.0 waits.3 steps.2))
    (for_end t asks.0 asks.2 answer asks.4))

pub for_line : (t : ℕ) (old : ServiceState) (line : SessionLine) (calls : List Call) (new : ServiceState) (answer : Answer) → Asks t line calls answer → Run old calls new → AreFor t calls
for_line t old Blank calls new answer asks runs = to_for t calls [] asks.0 tt
for_line t old (Refused refusal) calls new answer asks runs = to_for t calls [] asks.0 tt
for_line t old (Command command) calls new answer asks runs = for_command t command calls answer asks
for_line t old Wait calls new answer asks runs = for_wait t old calls new answer asks runs

pub for_holds : (t : ℕ) (old : ServiceState) (job : Option JobState) (calls : List Call) (new : ServiceState) → Holds t job calls → Run old calls new → AreFor t calls
for_holds t old job calls new is runs = grind arith

-- two names have no id in common
last_id-le : (names : List (List ℕ)) (name : List ℕ) → last_id names name ≤ length names
last_id-le [] name = omega arith
last_id-le (newest ∷ older) name = grind (arith, last_id-le older name)

pub id_within : (names : List (List ℕ)) (name : List ℕ) → last_id names name ≤ length names
id_within names name = last_id-le names name

pub names_apart : (names : List (List ℕ)) (other name : List ℕ) → (other ≡ name → ⊥) → Apart (last_id names other) (last_id names name)
names_apart [] other name differ same = refl
names_apart (newest ∷ older) other name differ same = grind (arith, bytes_eq-Decides, last_id-le, names_apart older other name differ)

-- a newer name is another's
pub older_id : (names : List (List ℕ)) (other name : List ℕ) → (other ≡ name → ⊥) → last_id (other ∷ names) name ≡ last_id names name
older_id names other name differ = grind (arith, bytes_eq-Decides)
