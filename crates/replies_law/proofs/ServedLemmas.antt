-- The replies to the operator and to sessions are read back unchanged, and the number of live
-- tenancies afterwards is right.
use Rattle.replies_law.proofs.Prelude.{◌≡◌, ℕ, suc, ◌<◌, ◌^◌, List, [], ◌∷◌, ◌++◌, length, codes, Result, Ok, Option, Some, refl, sym, arith, subst, All, NotServed, JournalFull, NoSuchTenancy, OpRefusal, History, Receipted, Call, Run, IsReceipt, ServiceState, Command as TenantCommand, Status, SessionLine, Blank, Wait, Refused, SessionRefusal, UnknownCommand, BadNumber, UnfinishedUpload, Evicted, StepOutcome, Recorded, Full, Gone, NoMemory, Nothing, Unfit, Answer, Served, Asks, AsksCommand, EndsWait, answer_text, session_refusal_text, unserved_text, MakesStep, admitted_text, evicted_text, moved_text, outcome_text, refused_text, taken_text, Tried, tried_calls, tried_text, AreSteady, steady_step, line_length, IsReply, session_form, NetsAreWords, NoFeed}
use Rattle.service_core.specs.declared.not_served.NotServed.TheVariants.{NoMemory as NotServedNoMemory}
use Rattle.service_core.specs.declared.op_refusal.OpRefusal.TheVariants as Op
use Rattle.service_core.specs.Calls.{IsServed as CoreServed}
use Rattle.sessions.specs.declared.line.SessionLine.TheVariants.{Command}
use Rattle.replies_law.proofs.FeedLemmas.{IsLine, decimal_no_feed, line_is_first, no_feed-append}
use Rattle.replies_law.proofs.FormLemmas.{AreLines, plain_line}
use Rattle.replies_law.proofs.AnswerLemmas.{IsRead, line_of_bytes, numbered_no_feed, reply_is_read, step_plain}

-- a run in two parts
pub record Parted (old new : ServiceState) (first next : List Call) : Type 0 where
  pub mid : ServiceState
  pub before : Run old first mid
  pub behind : Run mid next new

pub run_parts : (old new : ServiceState) (first next : List Call) → Run old (first ++ next) new → Parted old new first next
run_parts old new [] next run = record { mid = old; before = refl; behind = run }
run_parts old new (call ∷ first) next run = grind (arith, run_parts run.0 new first next run.2)

-- the reply to a session when the core isn't asked, or has no reply
refused_read : (refusal : SessionRefusal) → IsRead (session_refusal_text refusal)
refused_read UnknownCommand rest = plain_line (session_refusal_text UnknownCommand) rest (numbered_no_feed (codes "line") (codes "UnknownCommand") [] 1 refl refl refl) refl
refused_read BadNumber rest = plain_line (session_refusal_text BadNumber) rest (numbered_no_feed (codes "line") (codes "BadNumber") [] 2 refl refl refl) refl
refused_read UnfinishedUpload rest = plain_line (session_refusal_text UnfinishedUpload) rest (numbered_no_feed (codes "line") (codes "UnfinishedUpload") [] 3 refl refl refl) refl
refused_read Evicted rest = plain_line (session_refusal_text Evicted) rest (numbered_no_feed (codes "line") (codes "Evicted") [] 4 refl refl refl) refl

unserved_read : (refusal : NotServed) → IsRead (unserved_text refusal)
unserved_read NotServedNoMemory rest = plain_line (unserved_text NotServedNoMemory) rest (numbered_no_feed (codes "refused") (codes "NoMemory") [] 1 refl refl refl) refl
unserved_read (JournalFull note) rest = plain_line (unserved_text (JournalFull note)) rest (numbered_no_feed (codes "refused") (codes "JournalFull") [] 2 refl refl refl) refl
unserved_read (NoSuchTenancy note) rest = refused_read Evicted rest

-- what the core replies
receipt_read : NetsAreWords → (o : Option History) (id : ℕ) (command : TenantCommand) (r : Receipted) → IsReceipt o id command r → length (answer_text (Served (Ok r))) < 2 ^ 64 → IsRead (answer_text (Served (Ok r)))
receipt_read words o id command r is small = grind (arith, reply_is_read, step_plain)

served_read : NetsAreWords → (old mid : ServiceState) (id : ℕ) (command : TenantCommand) (served : Result Receipted NotServed) → CoreServed old id command served mid → length (answer_text (Served served)) < 2 ^ 64 → IsRead (answer_text (Served served))
served_read words old mid id command served is small = grind (arith, receipt_read, unserved_read)

asks_read : NetsAreWords → (old new : ServiceState) (id : ℕ) (command : TenantCommand) (calls : List Call) (answer : Answer) → AsksCommand id command calls answer → Run old calls new → length (answer_text answer) < 2 ^ 64 → IsRead (answer_text answer)
asks_read words old new id command calls answer asks run small = grind (arith, served_read)

wait_read : NetsAreWords → (old new : ServiceState) (id : ℕ) (last : StepOutcome) (calls : List Call) (answer : Answer) → EndsWait id last calls answer → Run old calls new → length (answer_text answer) < 2 ^ 64 → IsRead (answer_text answer)
wait_read words old new id (Recorded reply) calls answer ends run small = asks_read words old new id Status calls answer ends run small
wait_read words old new id Full calls answer ends run small = asks_read words old new id Status calls answer ends run small
wait_read words old new id Gone calls answer ends run small = asks_read words old new id Status calls answer ends run small
wait_read words old new id NoMemory calls answer ends run small = let R : Answer → Type 0 = λ a. IsRead (answer_text a) in subst R (sym ends.1) (unserved_read NotServedNoMemory)
wait_read words old new id Nothing calls answer ends run small = asks_read words old new id Status calls answer ends run small
wait_read words old new id Unfit calls answer ends run small = asks_read words old new id Status calls answer ends run small

-- a session's line
pub session_read : NetsAreWords → (old new : ServiceState) (id live : ℕ) (line : SessionLine) (calls : List Call) (answer : Answer) → Asks id line calls answer → Run old calls new → length (answer_text answer) < 2 ^ 64 → IsReply live (session_form line) (answer_text answer)
session_read words old new id live Blank calls answer asks run small rest = grind arith
session_read words old new id live (Refused refusal) calls answer asks run small rest = grind (arith, refused_read)
session_read words old new id live (Command command) calls answer asks run small rest = asks_read words old new id command calls answer asks run small rest
session_read words old new id live Wait calls answer asks run small rest =
    let P : List Call → Type 0 = λ cs. Run old cs new in
    let parts = run_parts old new asks.1 asks.2 (subst P asks.5 run) in
    wait_read words parts.mid new id asks.0 asks.2 answer asks.4 parts.behind small rest

-- lines of the operator
pub line_read : (text line : List ℕ) → text ≡ line → IsLine line → (rest : List ℕ) → line_length (text ++ rest) ≡ Some (length text)
line_read text line is one rest = let P : List ℕ → Type 0 = λ t. line_length (t ++ rest) ≡ Some (length t) in subst P (sym is) (line_is_first line rest one)

pub refused_line : (number : ℕ) (name : List ℕ) → NoFeed name → IsLine (refused_text number name)
refused_line number name all = numbered_no_feed (codes "refused") name [] number refl all refl

pub admitted_line : (answer : Result (ℕ × ℕ) OpRefusal) → IsLine (admitted_text answer)
admitted_line answer = grind (arith, line_of_bytes, no_feed-append, decimal_no_feed)

pub evicted_line : (answer : Result (Unit {0}) OpRefusal) → IsLine (evicted_text answer)
evicted_line answer = grind (arith, refused_line)

pub moved_line : (offset : ℕ) (answer : Result (Unit {0}) OpRefusal) → IsLine (moved_text offset answer)
moved_line offset answer = grind (arith, line_of_bytes, no_feed-append, decimal_no_feed)

pub taken_line : (number : Option ℕ) → IsLine (taken_text number)
taken_line number = grind (arith, line_of_bytes, decimal_no_feed)

pub outcome_line : (outcome : StepOutcome) → IsLine (outcome_text outcome)
outcome_line outcome = grind arith

pub tried_lines : (tried : Tried) → AreLines (length tried) (tried_text tried)
tried_lines [] = refl
tried_lines (t ∷ tried) = (outcome_text t.1, tried_text tried, outcome_line t.1, tried_lines tried, refl)

steady_both : (xs ys : List Call) → AreSteady xs → AreSteady ys → AreSteady (xs ++ ys)
steady_both [] ys a b = b
steady_both (x ∷ xs) ys a b = (a.0, steady_both xs ys a.1 b)

pub steady_tried : (id : ℕ) (tried : Tried) → All (λ t. MakesStep id t.0 t.1) tried → AreSteady (tried_calls tried)
steady_tried id [] all = tt
steady_tried id (t ∷ tried) all = steady_both t.0 (tried_calls tried) (steady_step id t.0 t.1 (all 0 t (omega arith))) (steady_tried id tried (λ k d within. all (suc k) d (omega (arith, within))))
