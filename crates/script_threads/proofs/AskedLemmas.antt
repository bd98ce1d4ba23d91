-- Refused commands among the turns: a command that is refused since the journal is full changes
-- nothing, and the journal stays full, so it may stand at the end of the turns.
use Rattle.script_threads.proofs.Prelude.{◌≡◌, ◌≢◌, ℕ, List, [], ◌∷◌, ◌++◌, length, Bool, true, false, Option, Some, None, Err, refl, sym, ap, ◌∙◌, arith, All, is_some, ◌||◌, AllZip, cons_option, filter_map, All-head, All-nil, All-tail, NoteCause, JournalFull, Noted, Receipted, Call, Happens, Run, Tenant, ServiceState, journal_of, live_of, SessionLine, Blank, Command, Wait, Refused, own_receipts, IsOfThreads, AnswersCommand, IsTold, ItemAnswer, Receipt, Note, receipt_in, is_note, served_late, is_turn, own_answers, receipts_told, told_answer, told_answers}
use Rattle.std.proofs.Common.{map}
use Rattle.tenant_slot.specs.declared.command.Command.{Command as TenantCommand}
use Rattle.service_core.specs.declared.not_served.NoteCause.TheVariants.{JournalFull as CauseFull}
use Rattle.transcripts.specs.declared.item.ItemAnswer.TheVariants.{Refused as RefusedPlace}

abbrev pub Answer : Type 0
Answer = TenantCommand × ItemAnswer

abbrev pub place_in : Answer → ItemAnswer
place_in a = a.1

abbrev pub receipt_by : Answer → Option Receipted
receipt_by a = receipt_in a.1

abbrev pub of_receipt : Receipted → Answer
of_receipt r = (r.command, Receipt r)

-- the note of a command that was refused, and its call
abbrev note_by : TenantCommand → ItemAnswer → Option Answer
note_by command (Receipt r) = None
note_by command (Note n) = Some (command, Note n)
note_by command (RefusedPlace refusal) = None

abbrev refused_by : ℕ → TenantCommand → ItemAnswer → Option Call
refused_by id command (Receipt r) = None
refused_by id command (Note n) = Some (Tenant id command (Err (JournalFull n)))
refused_by id command (RefusedPlace refusal) = None

abbrev pub notes_of : List Answer → List Answer
notes_of answers = filter_map (λ a. note_by a.0 a.1) answers

abbrev pub refused_calls : ℕ → List Answer → List Call
refused_calls id answers = filter_map (λ a. refused_by id a.0 a.1) answers

-- these calls have those answers
own_one : (id : ℕ) (command : TenantCommand) (place : ItemAnswer) (calls : List Call) → own_answers id (cons_option (refused_by id command place) calls) ≡ cons_option (note_by command place) (own_answers id calls)
own_one id command place calls = grind arith

pub own_notes : (id : ℕ) (answers : List Answer) → own_answers id (refused_calls id answers) ≡ notes_of answers
own_notes id [] = refl
own_notes id (a ∷ answers) = own_one id a.0 a.1 (refused_calls id answers) ∙ ap (cons_option (note_by a.0 a.1)) (own_notes id answers)

other_one : (id t : ℕ) → id ≢ t → (command : TenantCommand) (place : ItemAnswer) (calls : List Call) → own_answers id (cons_option (refused_by t command place) calls) ≡ own_answers id calls
other_one id t apart command place calls = grind arith

pub other_notes : (id t : ℕ) → id ≢ t → (answers : List Answer) → own_answers id (refused_calls t answers) ≡ []
other_notes id t apart [] = refl
other_notes id t apart (a ∷ answers) = other_one id t apart a.0 a.1 (refused_calls t answers) ∙ other_notes id t apart answers

pub own_served : (id : ℕ) (a : ServiceState) (calls : List Call) (b : ServiceState) → All IsOfThreads calls → Run a calls b → own_answers id calls ≡ map of_receipt (own_receipts id calls)
own_served id a [] b kinds run = refl
own_served id a (call ∷ calls) b kinds run = grind (arith, All-head, own_served id run.0 calls b (All-tail IsOfThreads call calls kinds) run.2)

-- what is said of each answer
abbrev pub IsAnswerTo : ℕ → Answer → Type 0
IsAnswerTo id a = AnswersCommand id a.0 a.1

one_answer : (id : ℕ) (item : SessionLine) (t : Option ItemAnswer) (answers : List Answer) → IsTold id item t → All (IsAnswerTo id) answers → All (IsAnswerTo id) (cons_option (told_answer item t) answers)
one_answer id item t answers is rest = grind arith

pub are_answers : (id : ℕ) (items : List SessionLine) (told : List (Option ItemAnswer)) → AllZip (IsTold id) items told → All (IsAnswerTo id) (told_answers items told)
are_answers id [] told zip = All-nil (IsAnswerTo id)
are_answers id (item ∷ items) [] zip = All-nil (IsAnswerTo id)
are_answers id (item ∷ items) (t ∷ told) zip = one_answer id item t (told_answers items told) zip.0 (are_answers id items told zip.1)

one_place : (P : ItemAnswer → Type 0) (item : SessionLine) (place : ItemAnswer) (answers : List Answer) → P place → All (λ (a : Answer). P a.1) answers → All (λ (a : Answer). P a.1) (cons_option (told_answer item (Some place)) answers)
one_place P item place answers is rest = grind arith

no_place : (item : SessionLine) (answers : List Answer) → cons_option (told_answer item None) answers ≡ answers
no_place item answers = grind arith

-- the places of the answers
abbrev pub places : List (Option ItemAnswer) → List ItemAnswer
places told = filter_map (λ x. x) told

pub all_places : (P : ItemAnswer → Type 0) (items : List SessionLine) (told : List (Option ItemAnswer)) → All P (places told) → All (λ (a : Answer). P a.1) (told_answers items told)
all_places P [] told all = All-nil (λ (a : Answer). P a.1)
all_places P (item ∷ items) [] all = All-nil (λ (a : Answer). P a.1)
all_places P (item ∷ items) (None ∷ told) all = rw (no_place item (told_answers items told)) (all_places P items told all)
all_places P (item ∷ items) (Some place ∷ told) all = one_place P item place (told_answers items told) (All-head P place (places told) all) (all_places P items told (All-tail P place (places told) all))

-- the receipts among them
one_receipt : (id : ℕ) (item : SessionLine) (t : Option ItemAnswer) (answers : List Answer) (told : List (Option ItemAnswer)) → IsTold id item t → filter_map receipt_by answers ≡ receipts_told told →
    filter_map receipt_by (cons_option (told_answer item t) answers) ≡ receipts_told (t ∷ told)
one_receipt id item t answers told is rest = grind arith

pub receipts_are : (id : ℕ) (items : List SessionLine) (told : List (Option ItemAnswer)) → AllZip (IsTold id) items told → filter_map receipt_by (told_answers items told) ≡ receipts_told told
receipts_are id [] [] zip = refl
receipts_are id [] (t ∷ told) zip = absurd zip
receipts_are id (item ∷ items) [] zip = absurd zip
receipts_are id (item ∷ items) (t ∷ told) zip = one_receipt id item t (told_answers items told) told zip.0 (receipts_are id items told zip.1)

late_cons : (refused : Bool) (place : ItemAnswer) (places more : List ItemAnswer) → (served_late (is_note place || refused) places ≡ false → served_late (is_note place || refused) more ≡ false) → served_late refused (place ∷ places) ≡ false →
    served_late refused (place ∷ more) ≡ false
late_cons refused place places more rest fine = grind arith

pub none_late : (id : ℕ) (refused : Bool) (items : List SessionLine) (told : List (Option ItemAnswer)) → AllZip (IsTold id) items told → served_late refused (places told) ≡ false → served_late refused (map place_in (told_answers items told)) ≡ false
none_late id refused [] told zip fine = refl
none_late id refused (item ∷ items) [] zip fine = refl
none_late id refused (item ∷ items) (None ∷ told) zip fine = rw (no_place item (told_answers items told)) (none_late id refused items told zip.1 fine)
none_late id refused (Blank ∷ items) (Some place ∷ told) zip fine = absurd zip.0
none_late id refused (Refused refusal ∷ items) (Some (Receipt r) ∷ told) zip fine = let never : Receipt r ≡ RefusedPlace refusal = zip.0 in cc
none_late id refused (Refused refusal ∷ items) (Some (Note n) ∷ told) zip fine = let never : Note n ≡ RefusedPlace refusal = zip.0 in cc
none_late id refused (Refused refusal ∷ items) (Some (RefusedPlace other) ∷ told) zip fine = none_late id refused items told zip.1 fine
none_late id refused (Command command ∷ items) (Some place ∷ told) zip fine =
    late_cons refused place (places told) (map place_in (told_answers items told)) (λ rest. none_late id (is_note place || refused) items told zip.1 rest) fine
none_late id refused (Wait ∷ items) (Some place ∷ told) zip fine =
    late_cons refused place (places told) (map place_in (told_answers items told)) (λ rest. none_late id (is_note place || refused) items told zip.1 rest) fine

-- so they are the receipts, and then the notes
record AllNotes (answers : List Answer) : Type 0 where
  receipts : filter_map receipt_by answers ≡ []
  notes : answers ≡ notes_of answers

one_note : (id : ℕ) (command : TenantCommand) (place : ItemAnswer) (answers : List Answer) → AnswersCommand id command place → served_late true (place ∷ map place_in answers) ≡ false → (served_late true (map place_in answers) ≡ false → AllNotes answers) →
    AllNotes ((command, place) ∷ answers)
one_note id command place answers is fine rest = grind arith

all_notes : (id : ℕ) (answers : List Answer) → All (IsAnswerTo id) answers → served_late true (map place_in answers) ≡ false → AllNotes answers
all_notes id [] all fine = record { receipts = refl; notes = refl }
all_notes id (a ∷ answers) all fine = one_note id a.0 a.1 answers (All-head (IsAnswerTo id) a answers all) fine (λ more. all_notes id answers (All-tail (IsAnswerTo id) a answers all) more)

abbrev Parted : List Answer → Type 0
Parted answers = answers ≡ map of_receipt (filter_map receipt_by answers) ++ notes_of answers

one_parted : (id : ℕ) (command : TenantCommand) (place : ItemAnswer) (answers : List Answer) → AnswersCommand id command place → All (IsAnswerTo id) answers → served_late false (place ∷ map place_in answers) ≡ false → (served_late false (map place_in answers) ≡ false → Parted answers) →
    Parted ((command, place) ∷ answers)
one_parted id command (Receipt r) answers is all fine rest = ap (λ c. (c, Receipt r) ∷ answers) (sym is.1) ∙ ap (λ xs. of_receipt r ∷ xs) (rest fine)
one_parted id command (Note n) answers is all fine rest = grind (arith, all_notes id answers all fine)
one_parted id command (RefusedPlace refusal) answers is all fine rest = absurd is

pub parted : (id : ℕ) (answers : List Answer) → All (IsAnswerTo id) answers → served_late false (map place_in answers) ≡ false → answers ≡ map of_receipt (filter_map receipt_by answers) ++ notes_of answers
parted id [] all fine = refl
parted id (a ∷ answers) all fine =
    let more : All (IsAnswerTo id) answers = All-tail (IsAnswerTo id) a answers all in
    one_parted id a.0 a.1 answers (All-head (IsAnswerTo id) a answers all) more fine (λ rest. parted id answers more rest)

-- a refused command is a turn that changes nothing
pub record IsIdle (service : ServiceState) (call : Call) : Type 0 where
  pub happens : Happens service call service
  pub turn : is_turn call ≡ true

abbrev pub IsFullNote : ServiceState → ℕ → ItemAnswer → Type 0
IsFullNote service id place = (n : Noted) → place ≡ Note n → (n.cause ≡ CauseFull) × (length (journal_of service id) ≡ 65536)

abbrev noted : ℕ → NoteCause → Noted
noted id cause = record { id = id; cause = cause }

one_idle : (service : ServiceState) (id : ℕ) (command : TenantCommand) (place : ItemAnswer) (calls : List Call) → is_some (live_of service.histories id) ≡ true → AnswersCommand id command place → IsFullNote service id place → All (IsIdle service) calls →
    All (IsIdle service) (cons_option (refused_by id command place) calls)
one_idle service id command place calls live is full rest = grind arith

pub are_idle : (service : ServiceState) (id : ℕ) (answers : List Answer) → is_some (live_of service.histories id) ≡ true → All (IsAnswerTo id) answers → All (λ (a : Answer). IsFullNote service id a.1) answers → All (IsIdle service) (refused_calls id answers)
are_idle service id [] live all full = All-nil (IsIdle service)
are_idle service id (a ∷ answers) live all full =
    one_idle service id a.0 a.1 (refused_calls id answers) live (All-head (IsAnswerTo id) a answers all) (All-head (λ (x : Answer). IsFullNote service id x.1) a answers full)
    (are_idle service id answers live (All-tail (IsAnswerTo id) a answers all) (All-tail (λ (x : Answer). IsFullNote service id x.1) a answers full))

pub idle_run : (service : ServiceState) (calls : List Call) → All (IsIdle service) calls → Run service calls service
idle_run service [] all = refl
idle_run service (call ∷ calls) all = (service, (All-head (IsIdle service) call calls all).happens, idle_run service calls (All-tail (IsIdle service) call calls all))

-- each call of threads is a turn
pub kind_turn : (call : Call) → IsOfThreads call → is_turn call ≡ true
kind_turn call never = grind arith
