-- The answers to a session's items, in order.
use Rattle.std.specs.Prelude.{ℕ, ◌≡◌, ◌+◌, ◌-◌, ◌^◌, min, List, [], ◌∷◌, ◌++◌, length, All, Bool, true, false, Option, Some, None, Ok, Err}
use Rattle.std.specs.List.{filter_map}
use Rattle.tenant_slot.specs.declared.command.Command.{Command}
use Rattle.service_core.specs.Calls.{IsServed}
use Rattle.service_core.specs.Receipt.{Noted, Receipted}
use Rattle.service_core.specs.declared.not_served.NoteCause.{NoteCause}
use Rattle.service_core.specs.declared.not_served.NotServed.{NotServed}
use Rattle.service_core.specs.declared.not_served.NoteCause.TheVariants.{JournalFull as CauseJournalFull, NoSuchTenancy as CauseNoSuchTenancy}
use Rattle.service_core.specs.declared.not_served.NotServed.TheVariants.{JournalFull, NoSuchTenancy}
use Rattle.shared_core.specs.CoreCalls.{MarksEntry}
use Rattle.shared_core.specs.CoreState.{CoreState}
use Rattle.transcripts.specs.declared.item.Item.{Item}
use Rattle.transcripts.specs.declared.item.ItemAnswer.{ItemAnswer}
use Rattle.transcripts.specs.declared.item.ItemAnswer.TheVariants.{Receipt, Note, Refused}
use Rattle.transcripts.specs.declared.item.SessionEnd.{SessionEnd}

-- whose session it is, the answers to its items in order, how many items after the last of these
-- ran out of memory, and how it ended
pub record TranscriptState : Type 0 where
  pub id : ℕ
  pub items : List Item
  pub no_memory : ℕ
  pub end : Option SessionEnd

-- with one more item
abbrev pub with_place : TranscriptState → ItemAnswer → TranscriptState
with_place t place = record t { items = t.items ++ record { place = place; no_memory_before = t.no_memory } ∷ []; no_memory = 0 }

-- with one more item that ran out of memory; the count stops at its greatest value
abbrev pub with_no_memory : TranscriptState → TranscriptState
with_no_memory t = record t { no_memory = min (t.no_memory + 1) (2 ^ 64 - 1) }

-- an item with this answer; None if it ran out of memory
abbrev pub transcript_with : TranscriptState → Option ItemAnswer → TranscriptState
transcript_with t (Some place) = with_place t place
transcript_with t None = with_no_memory t

-- the receipt that an item has
abbrev pub receipt_in : ItemAnswer → Option Receipted
receipt_in (Receipt r) = Some r
receipt_in (Note n) = None
receipt_in (Refused r) = None

abbrev pub receipts_of : List Item → List Receipted
receipts_of items = filter_map (λ i. receipt_in i.place) items

-- no item is noted as one of a tenancy that isn't live
abbrev pub AreOfLive : List Item → Type 0
AreOfLive items = All (λ i. (n : Noted) → i.place ≡ Note n → n.cause ≡ CauseJournalFull) items

-- private: what a transcript keeps: it has the receipt of each entry that its lease made; while the
-- tenancy is live no item has the answer that it isn't
pub record IsTranscript (made : ℕ) (items : List Item) (live : Type 0) : Type 0 where
  pub count : made ≡ length (receipts_of items)
  pub of_live : live → AreOfLive items

-- a note with that cause is the core's answer to a command
abbrev pub answer_of_note : NoteCause → Noted → NotServed
answer_of_note CauseJournalFull note = JournalFull note
answer_of_note CauseNoSuchTenancy note = NoSuchTenancy note

-- the core's answer to a command of the tenancy's lease: a receipt is of an entry that is marked at
-- its place
abbrev pub IsPlaceOf : CoreState → ℕ → Command → ItemAnswer → CoreState → Type 0
IsPlaceOf before id command (Receipt r) after = IsServed before.service id command (Ok r) after.service × MarksEntry before id (Ok r) after
IsPlaceOf before id command (Note n) after = IsServed before.service id command (Err (answer_of_note n.cause n)) after.service × (after ≡ before)
IsPlaceOf before id command (Refused r) after = ⊥

-- a command was entered: the transcript has the core's answer, or memory ran out, and nothing else
-- changed
abbrev pub Enters : TranscriptState → CoreState → Command → Bool → CoreState → TranscriptState → Type 0
Enters old before command true after new = (place : ItemAnswer) × IsPlaceOf before old.id command place after × (new ≡ with_place old place)
Enters old before command false after new = (after ≡ before) × (new ≡ with_no_memory old)
