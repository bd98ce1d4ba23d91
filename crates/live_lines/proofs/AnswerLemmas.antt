-- Each reply ends with LF.
use Rattle.live_lines.proofs.Prelude.{◌≡◌, ℕ, List, [], ◌∷◌, ◌++◌, codes, decimal, Bool, true, cond, Option, Some, None, Result, refl, sym, ap, ◌∙◌, append_assoc, arith, ⊤, flat_map, BlifFault, PackedCircuit, Strip, Place, Node, Work, net_text_of, place_text_of, route_text_of, line_of, word_after_space, text_of, Status, WrongState, Reply, Accepted, File, Step, place_file_of, route_file_of, State, answer_to, serve, step, NotServed, NoMemory, JournalFull, NoSuchTenancy, History, Receipted, Call, Happens, IsReceipt, Run, Tenant, ServiceState, SessionLine, Blank, Command, Wait, Refused as RefusedLine, SessionRefusal, UnknownCommand, BadNumber, UnfinishedUpload, Evicted, StepOutcome, Answer, Served, Asks, AsksCommand, EndsWait, answer_text, blank_word, cause_text, ending_text, numbered_line, reply_text, session_refusal_text, step_text, unserved_text, file_text, refusal_number, refusal_text, state_text, is_whole}
use Rattle.std.specs.Prelude.{length}
use Rattle.tenant_slot.specs.declared.command.Command.{Command as TenantCommand}
use Rattle.tenant_slot.specs.declared.event.Event.TheVariants.{Command as Asked}
use Rattle.tenant_slot.specs.declared.reply.Reply.TheVariants.{Status as InState, Refused}
use Rattle.tenant_slot.specs.SingleUser.{is_lawful}
use Rattle.sessions.specs.declared.steps.StepOutcome.TheVariants.{NoMemory as StepNoMemory}

-- a line before whole lines
whole_then : (line more : List ℕ) → is_whole more ≡ true → is_whole (line ++ 10 ∷ more) ≡ true
whole_then [] [] ok = refl
whole_then [] (x ∷ more) ok = ok
whole_then (x ∷ []) more ok = whole_then [] more ok
whole_then (x ∷ y ∷ line) more ok = whole_then (y ∷ line) more ok

-- lines of words are whole
line_whole : (line : List (List ℕ)) (more : List ℕ) → is_whole more ≡ true → is_whole (line_of line ++ more) ≡ true
line_whole [] more ok = whole_then [] more ok
line_whole (word ∷ words) more ok =
    let rest = flat_map word_after_space words in
    let e : (word ++ (rest ++ 10 ∷ [])) ++ more ≡ (word ++ rest) ++ 10 ∷ more =
    append_assoc word (rest ++ 10 ∷ []) more ∙ (ap (λ r. word ++ r) (append_assoc rest (10 ∷ []) more) ∙ sym (append_assoc word rest (10 ∷ more))) in
    ap is_whole e ∙ whole_then (word ++ rest) more ok

lines_whole : (lines : List (List (List ℕ))) → is_whole (text_of lines) ≡ true
lines_whole [] = refl
lines_whole (line ∷ lines) = line_whole line (text_of lines) (lines_whole lines)

net_whole : (packed : PackedCircuit) → is_whole (net_text_of packed) ≡ true
unfolding net_text_of
net_whole packed = search lines_whole

place_whole : (strip : Strip) (packed : PackedCircuit) (places : List Place) → is_whole (place_text_of strip packed places) ≡ true
unfolding place_text_of
place_whole strip packed places = search lines_whole

route_whole : (strip : Strip) (packed : PackedCircuit) (places : List Place) (routes : List (List (List Node))) → is_whole (route_text_of strip packed places routes) ≡ true
unfolding route_text_of
route_whole strip packed places routes = search lines_whole

place_file_whole : (value : Result Work BlifFault) → is_whole (place_file_of value) ≡ true
place_file_whole value = grind (arith, place_whole)

route_file_whole : (placing routing : Result Work BlifFault) → is_whole (route_file_of placing routing) ≡ true
route_file_whole placing routing = grind (arith, route_whole)

-- the file of a reply, if it is one, is whole
abbrev HasWholeFile : Reply → Type 0
HasWholeFile (File kind text) = is_whole text ≡ true
HasWholeFile reply = ⊤

numbered_whole : (word : List ℕ) (number : ℕ) (name more : List ℕ) → is_whole (numbered_line word number name more) ≡ true
numbered_whole word number name more = whole_then (word ++ blank_word (decimal number) ++ blank_word name ++ more) [] refl

reply_whole : (reply : Reply) → HasWholeFile reply → is_whole (reply_text reply) ≡ true
reply_whole (Accepted state) has = whole_then (codes "ok" ++ blank_word (state_text state)) [] refl
reply_whole (InState status) has = whole_then (codes "status" ++ blank_word (state_text status.state) ++ blank_word (decimal status.steps) ++ ending_text status.ending) [] refl
reply_whole (File kind text) has = whole_then (codes "text" ++ blank_word (file_text kind) ++ blank_word (decimal (length text))) text has
reply_whole (Step reply) has = whole_then (step_text reply) [] refl
reply_whole (Refused refusal) has = numbered_whole (codes "refused") (refusal_number refusal) (refusal_text refusal) (cause_text refusal)

-- the replies of the service for a single user
abbrev Leads : Type 0
Leads = Option State × Reply

either_whole : (b : Bool) (x y : Leads) → HasWholeFile x.1 → HasWholeFile y.1 → HasWholeFile (cond b x y).1
either_whole b x y first second = grind arith

served_whole : (state : State) (command : TenantCommand) → HasWholeFile (serve state command).1
served_whole state command = grind (arith, net_whole, place_file_whole, route_file_whole)

answered_whole : (state : State) (command : TenantCommand) → HasWholeFile (answer_to state (Asked command)).1
answered_whole state command = either_whole (is_lawful state.name command) (serve state command) (None, Refused (WrongState state.name)) (served_whole state command) tt

abbrev Stepped : Type 0
Stepped = State × Option Reply

step_whole : (state : State) (command : TenantCommand) (reply : Reply) → (step state (Asked command)).1 ≡ Some reply → HasWholeFile reply
step_whole state command reply is = grind (arith, answered_whole)

receipt_whole : (live : Option History) (id : ℕ) (command : TenantCommand) (r : Receipted) → IsReceipt live id command r → HasWholeFile r.reply
receipt_whole live id command r is = grind (arith, step_whole)

unserved_whole : (refusal : NotServed) → is_whole (unserved_text refusal) ≡ true
unserved_whole NoMemory = numbered_whole (codes "refused") 1 (codes "NoMemory") []
unserved_whole (JournalFull note) = numbered_whole (codes "refused") 2 (codes "JournalFull") []
unserved_whole (NoSuchTenancy note) = numbered_whole (codes "line") 4 (codes "Evicted") []

pub refusal_whole : (refusal : SessionRefusal) → is_whole (session_refusal_text refusal) ≡ true
refusal_whole UnknownCommand = numbered_whole (codes "line") 1 (codes "UnknownCommand") []
refusal_whole BadNumber = numbered_whole (codes "line") 2 (codes "BadNumber") []
refusal_whole UnfinishedUpload = numbered_whole (codes "line") 3 (codes "UnfinishedUpload") []
refusal_whole Evicted = numbered_whole (codes "line") 4 (codes "Evicted") []

call_whole : (old new : ServiceState) (id : ℕ) (command : TenantCommand) (served : Result Receipted NotServed) → Happens old (Tenant id command served) new → is_whole (answer_text (Served served)) ≡ true
call_whole old new id command served is = grind (arith, reply_whole, receipt_whole, unserved_whole)

command_whole : (old new : ServiceState) (id : ℕ) (command : TenantCommand) (calls : List Call) (answer : Answer) → AsksCommand id command calls answer → Run old calls new → is_whole (answer_text answer) ≡ true
command_whole old new id command calls answer h1 run = grind (arith, call_whole)

-- the calls after the first ones
run_after : (old : ServiceState) (first more : List Call) (new : ServiceState) → Run old (first ++ more) new → (mid : ServiceState) × Run mid more new
run_after old [] more new run = (old, run)
run_after old (call ∷ first) more new run = run_after run.0 first more new run.2

wait_whole : (old new : ServiceState) (id : ℕ) (last : StepOutcome) (more : List Call) (answer : Answer) → EndsWait id last more answer → Run old more new → is_whole (answer_text answer) ≡ true
wait_whole old new id StepNoMemory more answer is run = ap (λ a. is_whole (answer_text a)) is.1 ∙ unserved_whole NoMemory
wait_whole old new id last more answer is run = command_whole old new id Status more answer is run

-- what a session's line is answered is whole lines
pub answer_whole : (old new : ServiceState) (id : ℕ) (item : SessionLine) (calls : List Call) (answer : Answer) → Asks id item calls answer → Run old calls new → is_whole (answer_text answer) ≡ true
answer_whole old new id Blank calls answer is run = ap (λ a. is_whole (answer_text a)) is.1
answer_whole old new id (RefusedLine refusal) calls answer is run = ap (λ a. is_whole (answer_text a)) is.1 ∙ refusal_whole refusal
answer_whole old new id (Command command) calls answer is run = command_whole old new id command calls answer is run
answer_whole old new id Wait calls answer (last, steps, more, waits, ends, calls_are) run = grind (arith, run_after, wait_whole)
