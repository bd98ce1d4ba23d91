-- A session's answers, and how they are spelled.
use Rattle.std.specs.Prelude.{ℕ, ◌≡◌, ◌-◌, length, option_map, slice_get, ⊤, List, [], ◌∷◌, Option, Some, None, Bool, true, false}
use Rattle.std.specs.List.{flat_map}
use Rattle.session_threads.specs.Prelude.{Status, Reply, kind_that_runs, SessionLine, Blank, Command, Wait, Refused, no_memory_text, note_text, reply_text, session_refusal_text, Item, ItemAnswer, Receipt, Note, TranscriptState, transcript_with, with_no_memory, with_place}
use Rattle.tenant_slot.specs.declared.command.Command.{Command as TenantCommand}
use Rattle.tenant_slot.specs.declared.reply.Reply.TheVariants.{Status as InState}
use Rattle.transcripts.specs.declared.item.ItemAnswer.TheVariants.{Refused as RefusedPlace}

abbrev pub place_text : ItemAnswer → List ℕ
place_text (Receipt r) = reply_text r.reply
place_text (Note n) = note_text n.cause
place_text (RefusedPlace refusal) = session_refusal_text refusal

-- the text of the answer to an item; None if it ran out of memory
abbrev pub told_text : Option ItemAnswer → List ℕ
told_text (Some place) = place_text place
told_text None = no_memory_text

-- the text of all answers
abbrev pub told_texts : List (Option ItemAnswer) → List ℕ
told_texts told = flat_map told_text told

-- the answer of the core to that command of that tenancy: its receipt, or a note
abbrev pub AnswersCommand : ℕ → TenantCommand → ItemAnswer → Type 0
AnswersCommand id command (Receipt r) = (r.id ≡ id) × (r.command ≡ command)
AnswersCommand id command (Note n) = n.id ≡ id
AnswersCommand id command (RefusedPlace refusal) = ⊥

-- a reply reports a state in which no job runs
abbrev pub IsAtRest : Reply → Type 0
IsAtRest (InState status) = kind_that_runs status.state ≡ None
IsAtRest reply = ⊥

-- a wait is answered with a status in which no job runs, or with the note that answers a status
abbrev pub AnswersWait : ℕ → ItemAnswer → Type 0
AnswersWait id (Receipt r) = AnswersCommand id Status (Receipt r) × IsAtRest r.reply
AnswersWait id place = AnswersCommand id Status place

-- the answer to an item
abbrev pub AnswersItem : ℕ → SessionLine → ItemAnswer → Type 0
AnswersItem id Blank place = ⊥
AnswersItem id (Command command) place = AnswersCommand id command place
AnswersItem id Wait place = AnswersWait id place
AnswersItem id (Refused refusal) place = place ≡ RefusedPlace refusal

-- that answer, or the item ran out of memory
abbrev pub IsTold : ℕ → SessionLine → Option ItemAnswer → Type 0
IsTold id item (Some place) = AnswersItem id item place
IsTold id item None = ⊤

-- each item has one answer, in order
abbrev pub AreTold : ℕ → List SessionLine → List (Option ItemAnswer) → Type 0
AreTold id [] [] = ⊤
AreTold id [] (t ∷ told) = ⊥
AreTold id (item ∷ items) [] = ⊥
AreTold id (item ∷ items) (t ∷ told) = IsTold id item t × AreTold id items told

-- the transcript with all of these answers
abbrev pub noted_all : TranscriptState → List (Option ItemAnswer) → TranscriptState
noted_all t [] = t
noted_all t (x ∷ told) = noted_all (transcript_with t x) told

-- the item has an answer in the transcript, or ran out of memory
abbrev pub NotesBy : (ItemAnswer → Type 0) → TranscriptState → Bool → TranscriptState → Type 0
NotesBy answers old true new = (place : ItemAnswer) × answers place × (new ≡ with_place old place)
NotesBy answers old false new = new ≡ with_no_memory old

-- the answer to the last item that has one
abbrev pub last_place : List Item → Option ItemAnswer
last_place items = option_map (λ i. i.place) (slice_get items (length items - 1))
