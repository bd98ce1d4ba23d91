-- A number that is marked and unmarked again.
use Rattle.session_threads.proofs.Prelude.{◌≡◌, ℕ, List, Bool, true, false, Option, Some, ap, sym, ◌∙◌, set, slice_index_or, arith, set-get_or, set-set, Status, History, Receipted, IsReceipt, AreAlone, live_of, CoreState, has_room_in, is_idle_in, ready_number, with_mark, served_room, ItemAnswer, Receipt, Note, Enters, IsPlaceOf, TranscriptState, Found, AnswersWait, IsAtRest, NotesBy, found_in}
use Rattle.transcripts.specs.declared.item.ItemAnswer.TheVariants.{Refused}
use Rattle.session_threads.specs.declared.waiting.Found.TheVariants.{Ended}
use Rattle.session_threads.proofs.ToldLemmas.{place_answers}

free_again : (queued : List Bool) (n : ℕ) → slice_index_or queued n false ≡ false → set (set queued n true) n false ≡ queued
free_again queued n free = set-set queued n true false ∙ (ap (λ b. set queued n b) (sym free) ∙ set-get_or queued n false)

ready_free : (core : CoreState) (id n : ℕ) → ready_number core id ≡ Some n → slice_index_or core.slots.queued n false ≡ false
ready_free core id n is = grind arith

pub mark_back : (core : CoreState) (id n : ℕ) → ready_number core id ≡ Some n → record core { slots = with_mark (with_mark core.slots (Some n) true) (Some n) false } ≡ core
mark_back core id n is = ap (λ queued. record core { slots = record core.slots { queued = queued } }) (free_again core.slots.queued n (ready_free core id n is))

idle_at_rest : (live : Option History) (id : ℕ) (r : Receipted) → is_idle_in live ≡ true → has_room_in live ≡ true → IsReceipt live id Status r → IsAtRest r.reply
idle_at_rest live id r idle room is = grind arith

waited : (before after : CoreState) (id : ℕ) (place : ItemAnswer) → AreAlone before.service → is_idle_in (live_of before.service.histories id) ≡ true → IsPlaceOf before id Status place after → AnswersWait id place
waited before after id (Receipt r) alone idle is = search (place_answers, idle_at_rest, served_room, arith)
waited before after id (Note n) alone idle is = place_answers before after id Status (Note n) is
waited before after id (Refused refusal) alone idle is = place_answers before after id Status (Refused refusal) is

pub wait_notes : (old new : TranscriptState) (before after : CoreState) (has : Bool) → AreAlone before.service → Ended ≡ found_in before old.id → Enters old before Status has after new → NotesBy (AnswersWait old.id) old has new
wait_notes old new before after has alone found is = grind (arith, waited)
