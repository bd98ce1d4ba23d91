-- A name's seat after its own lines.
use Rattle.replies_law.proofs.Prelude.{◌≡◌, ℕ, ◌+◌, cond, List, [], ◌∷◌, ◌++◌, length, Option, Some, None, Result, refl, ap, ◌∙◌, subst, arith, IsSome, flat_map, false≢true, bytes_eq-Decides, Command as TenantCommand, Status, Device, OpRefusal, IsAdmitted, IsEvicted, History, Call, Run, Admit as AdmitCall, ServiceState, admitted_history, live_of, Kept, run_keeps, history_of-modified, history_of-push, SessionLine, Wait, StepOutcome, Answer, Asks, AsksCommand, EndsWait, answer_text, MadeStep, MakesStep, split, evicted_text, last_id, names_after, IsAdmission, Stage}
use Rattle.replies_law.proofs.Found.{HadMemory}
use Rattle.replies_law.proofs.Seats.{admits as is_admitted, Admits, Says, Waited, asked_after, asked_text, eviction_text, seat}
use Rattle.replies_law.proofs.Steps.{AsksSeat, command_sits, ended, had_parts, made_sit, step_sits}

-- nothing is called
none_called : (old new : ServiceState) (id : ℕ) (calls : List Call) → calls ≡ [] → Run old calls new → seat new.histories id ≡ seat old.histories id
none_called old new id calls is runs = grind arith

pub asked_sits : (old new : ServiceState) (id : ℕ) (command : TenantCommand) (calls : List Call) (answer : Answer) → AsksCommand id command calls answer → Run old calls new → Kept old → HadMemory calls → AsksSeat old new id command (answer_text answer)
asked_sits old new id command calls answer asks runs kept had = grind (arith, command_sits)

-- a wait that doesn't run out of memory goes on as `status`
pub goes_on : (id : ℕ) (end : List Call) (last : StepOutcome) (more : List Call) (answer : Answer) → MakesStep id end last → HadMemory end → EndsWait id last more answer → AsksCommand id Status more answer
goes_on id end last more answer makes had ends = grind arith

wait_sits : (old new : ServiceState) (id : ℕ) (calls : List Call) (answer : Answer) → Asks id Wait calls answer → Run old calls new → Kept old → HadMemory calls → Waited (seat old.histories id) (answer_text answer) (seat new.histories id)
wait_sits old new id calls answer asks runs kept had =
    let last : StepOutcome = asks.0 in
    let waits = asks.3 in
    let made = flat_map (λ (m : MadeStep). m.0) waits.0 in
    let all : calls ≡ (made ++ waits.1) ++ asks.2 = asks.5 ∙ ap (λ cs. cs ++ asks.2) waits.5 in
    let whole : Run old ((made ++ waits.1) ++ asks.2) new = (let P : List Call → Type 0 = λ cs. Run old cs new in subst P all runs) in
    let hads = had_parts (made ++ waits.1) asks.2 (subst HadMemory all had) in
    let steps_had = had_parts made waits.1 hads.0 in
    let parts = split old (made ++ waits.1) asks.2 new whole in
    let steps = split old made waits.1 parts.0 parts.1 in
    let goes = made_sit waits.0 old steps.0 id waits.2 steps.1 kept steps_had.0 in
    let kept_then : Kept steps.0 = run_keeps old made steps.0 steps.1 kept in
    let did = step_sits steps.0 parts.0 id waits.1 last waits.3 steps.2 kept_then steps_had.1 in
    let end = ended last (seat (steps.0).histories id) (seat (parts.0).histories id) waits.4 did in
    let kept_last : Kept parts.0 = run_keeps steps.0 waits.1 parts.0 steps.2 kept_then in
    let status = asked_sits parts.0 new id Status asks.2 answer (goes_on id waits.1 last asks.2 answer waits.3 steps_had.1 asks.4) parts.2 kept_last hads.1 in
    record {
      count = length waits.0;
      mid = seat (steps.0).histories id;
      goes = goes;
      ends = end.0;
      told = status.told ∙ ap (λ s. asked_text s Status) end.1;
      after = status.after ∙ ap (λ s. asked_after s Status) end.1;
    }

pub line_sits : (old new : ServiceState) (id : ℕ) (line : SessionLine) (calls : List Call) (answer : Answer) → Asks id line calls answer → Run old calls new → Kept old → HadMemory calls →
    Says (seat old.histories id) line (answer_text answer) (seat new.histories id)
line_sits old new id line calls answer asks runs kept had = grind (arith, asked_sits, wait_sits)

pub eviction_sits : (old new : ServiceState) (id : ℕ) (answer : Result (Unit {0}) OpRefusal) → IsEvicted old id answer new → seat new.histories id ≡ None
eviction_sits old new id answer evicts = grind (arith, history_of-modified)

not_live : (o : Option History) → IsSome o → o ≡ None → ⊥
not_live o some none = let P : Option History → Type 0 = IsSome in false≢true (subst P none some)

pub eviction_told : (old new : ServiceState) (id : ℕ) (answer : Result (Unit {0}) OpRefusal) → IsEvicted old id answer new → evicted_text answer ≡ eviction_text (seat old.histories id)
eviction_told old new id answer evicts = grind arith

-- an admission
pub newest_id : (names : List (List ℕ)) (name : List ℕ) → last_id (name ∷ names) name ≡ length names + 1
newest_id names name = ap (λ b. cond b (length names + 1) (last_id names name)) ((bytes_eq-Decides name name).1 refl)

newest_live : (hs : List History) (device : Device) (width n : ℕ) → n ≡ length hs → live_of (hs ++ admitted_history device (length hs + 1) width ∷ []) (n + 1) ≡ Some (admitted_history device (length hs + 1) width)
newest_live hs device width n is = grind (arith, history_of-push)

granted_sits : (old new : Stage) (name : List ℕ) (width : ℕ) (answer : Result (ℕ × ℕ) OpRefusal) → IsAdmitted old.service width answer new.service → new.names ≡ names_after old.names name answer → length old.names ≡ length old.service.histories →
    Admits old.service.device (seat old.service.histories (last_id old.names name)) width (is_admitted (AdmitCall width answer ∷ [])) (seat new.service.histories (last_id new.names name))
granted_sits old new name width answer admits names even = grind (arith, newest_id, newest_live)

pub admission_sits : (o : Option History) (old new : Stage) (name : List ℕ) (width : ℕ) (calls : List Call) (text : List ℕ) → IsAdmission o old name width calls text new → length old.names ≡ length old.service.histories →
    Admits old.service.device (seat old.service.histories (last_id old.names name)) width (is_admitted calls) (seat new.service.histories (last_id new.names name))
admission_sits o old new name width calls text is even = grind (arith, granted_sits)
