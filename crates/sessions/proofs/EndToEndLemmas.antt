-- A line is answered what the service for a single user replies.
use Rattle.sessions.proofs.Prelude.{◌≡◌, ◌∙◌, ℕ, ◌-◌, List, [], ◌∷◌, ◌++◌, length, length-append, take, Option, Some, None, Result, Ok, Err, inl, inr, refl, ap, subst, arith, IsSomeAnd, option_map, take-append-le, take_all, Status, Reply, State, step, step-full, Device, NotServed, NoMemory as NotServedNoMemory, JournalFull, NoSuchTenancy, IsServed, History, state_of, Noted, Receipted, Call, Run, IsReceipt, IsAloneOn, ServiceState, empty_service, history_of, live_of, live_width, state_alone, Kept, run_keeps, IsService-empty, if_live_some, All-history_of, SessionLine, Blank, Command, Wait, Refused, StepOutcome, Recorded, Full, Gone, Nothing, Unfit, Answer, Served, IsToldAlone, LineIsToldAlone, alone_text, told_text, Asks, AsksCommand, EndsWait, answer_text}
use Rattle.tenant_slot.specs.declared.command.Command.{Command as TenantCommand}
use Rattle.tenant_slot.specs.declared.event.Event.TheVariants.{Command as Asked}
use Rattle.sessions.specs.declared.steps.StepOutcome.TheVariants.{NoMemory as StepNoMemory}
use Rattle.sessions.proofs.StepLemmas.{Run-append}
use Rattle.sessions.proofs.Stepping.{steps_width, wait_stepping}

-- a full journal has no reply
full_alone : (device : Device) (calls : List Call) (state : ServiceState) (id : ℕ) (h : History) (command : TenantCommand) → Run (empty_service device) calls state → live_of state.histories id ≡ Some h → length h.entries ≡ 65536 →
    (step (state_of h) (Asked command)).1 ≡ None
full_alone device calls state id h command runs live full =
    let here : history_of state.histories id ≡ Some h = if_live_some (history_of state.histories id) h live in
    let kept : Kept state = run_keeps (empty_service device) calls state runs (IsService-empty device) in
    let on : IsAloneOn state.device h = All-history_of (IsAloneOn state.device) state.histories id h here kept.alone in
    ap (λ (p : State × Option Reply). p.1) (step-full (state_of h) (Asked command) (on.replayed.count ∙ full))

receipt_alone : (device : Device) (calls : List Call) (state : ServiceState) (id : ℕ) (command : TenantCommand) (r : Receipted) (o : Option History) → live_of state.histories id ≡ o → Run (empty_service device) calls state → IsReceipt o id command r →
    told_text (Some r.reply) ≡ alone_text device (option_map (λ h. h.strip.width) o) id calls command
receipt_alone device calls state id command r o live runs is = grind (arith, state_alone)

full_told : (device : Device) (calls : List Call) (state : ServiceState) (id : ℕ) (command : TenantCommand) (o : Option History) → live_of state.histories id ≡ o → Run (empty_service device) calls state → IsSomeAnd o (λ h. length h.entries ≡ 65536) →
    told_text None ≡ alone_text device (option_map (λ h. h.strip.width) o) id calls command
full_told device calls state id command None live runs is = absurd is
full_told device calls state id command (Some h) live runs is = grind (arith, state_alone, full_alone device calls state id h command runs live is, state_alone device calls state id h runs live)

pub receipt_told : (device : Device) (calls : List Call) (old new : ServiceState) (id : ℕ) (command : TenantCommand) (r : Receipted) → Run (empty_service device) calls old → IsServed old id command (Ok r) new →
    answer_text (Served (Ok r)) ≡ alone_text device (live_width old.histories id) id calls command
receipt_told device calls old new id command r runs is = receipt_alone device calls old id command r (live_of old.histories id) refl runs is.0

pub journal_told : (device : Device) (calls : List Call) (old : ServiceState) (id : ℕ) (command : TenantCommand) (note : Noted) (new : ServiceState) → Run (empty_service device) calls old → IsServed old id command (Err (JournalFull note)) new →
    answer_text (Served (Err (JournalFull note))) ≡ alone_text device (live_width old.histories id) id calls command
journal_told device calls old id command note new runs is = full_told device calls old id command (live_of old.histories id) refl runs is.1

command_told : (device : Device) (calls : List Call) (old new : ServiceState) (id : ℕ) (command : TenantCommand) (served : Result Receipted NotServed) → Run (empty_service device) calls old → IsServed old id command served new →
    IsToldAlone device old id calls command (Served served)
command_told device calls old new id command (Ok r) runs is = inr (receipt_told device calls old new id command r runs is)
command_told device calls old new id command (Err (JournalFull note)) runs is = grind (arith, journal_told device calls old id command note new runs is)
command_told device calls old new id command (Err (NoSuchTenancy note)) runs is = grind arith
command_told device calls old new id command (Err NotServedNoMemory) runs is = inl refl

asked_told : (device : Device) (before calls : List Call) (old new : ServiceState) (id : ℕ) (command : TenantCommand) (answer : Answer) → Run (empty_service device) before old → AsksCommand id command calls answer → Run old calls new →
    IsToldAlone device old id before command answer
asked_told device before calls old new id command answer runs asks next = grind (arith, command_told)

all_but_last : (steps : List Call) (call : Call) → take (length (steps ++ call ∷ []) - 1) (steps ++ call ∷ []) ≡ steps
all_but_last steps call = grind (arith, length-append, take-append-le, take_all)

-- a status after steps, which change no width
behind_told : (device : Device) (before steps more calls : List Call) (old mid new : ServiceState) (id : ℕ) (answer : Answer) → Run (empty_service device) (before ++ steps) mid → live_width mid.histories id ≡ live_width old.histories id →
    AsksCommand id Status more answer → Run mid more new → calls ≡ steps ++ more → IsToldAlone device old id (before ++ take (length calls - 1) calls) Status answer
behind_told device before steps more calls old mid new id answer runs width asks next is = grind (arith, all_but_last, asked_told)

end_told : (device : Device) (before steps more calls : List Call) (old mid new : ServiceState) (id : ℕ) (last : StepOutcome) (answer : Answer) → Run (empty_service device) (before ++ steps) mid → live_width mid.histories id ≡ live_width old.histories id →
    EndsWait id last more answer → Run mid more new → calls ≡ steps ++ more → IsToldAlone device old id (before ++ take (length calls - 1) calls) Status answer
end_told device before steps more calls old mid new id (Recorded reply) answer runs width ends next is = behind_told device before steps more calls old mid new id answer runs width ends next is
end_told device before steps more calls old mid new id Full answer runs width ends next is = behind_told device before steps more calls old mid new id answer runs width ends next is
end_told device before steps more calls old mid new id Gone answer runs width ends next is = behind_told device before steps more calls old mid new id answer runs width ends next is
end_told device before steps more calls old mid new id StepNoMemory answer runs width ends next is = inl ends.1
end_told device before steps more calls old mid new id Nothing answer runs width ends next is = behind_told device before steps more calls old mid new id answer runs width ends next is
end_told device before steps more calls old mid new id Unfit answer runs width ends next is = behind_told device before steps more calls old mid new id answer runs width ends next is

pub split : (old : ServiceState) (xs ys : List Call) (new : ServiceState) → Run old (xs ++ ys) new → (mid : ServiceState) × Run old xs mid × Run mid ys new
split old [] ys new runs = (old, refl, runs)
split old (x ∷ xs) ys new runs = let rest = split runs.0 xs ys new runs.2 in (rest.0, (runs.0, runs.1, rest.1), rest.2)

pub line_told : (device : Device) (before calls : List Call) (old new : ServiceState) (id : ℕ) (line : SessionLine) (answer : Answer) → Run (empty_service device) before old → Asks id line calls answer → Run old calls new →
    LineIsToldAlone device old id before calls line answer
line_told device before calls old new id Blank answer runs asks next = ap answer_text asks.1
line_told device before calls old new id (Refused refusal) answer runs asks next = ap answer_text asks.1
line_told device before calls old new id (Command command) answer runs asks next = asked_told device before calls old new id command answer runs asks next
line_told device before calls old new id Wait answer runs asks next =
    let steps = asks.1 in
    let more = asks.2 in
    let whole : Run old (steps ++ more) new = (let P : List Call → Type 0 = λ cs. Run old cs new in subst P asks.5 next) in
    let parts = split old steps more new whole in
    end_told device before steps more calls old parts.0 new id asks.0 answer (Run-append (empty_service device) before old steps parts.0 runs parts.1)
    (steps_width id old steps parts.0 (wait_stepping id steps asks.0 asks.3) parts.1) asks.4 parts.2 asks.5
