-- The answers of the sessions, put together.
use Rattle.script_threads.proofs.Prelude.{◌≡◌, List, [], ◌∷◌, ◌++◌, length, get_or, sym, ap, subst, ◌∙◌, arith, All, IfSome, map_push, All-append, All-push, filter_map-append, ServiceState, journal_of, IsFullIfTold, AreOfLive, TranscriptState, Adds, AreFullNotes, AreParts, part_told, Section, PartState, transcripts_of}
use Rattle.script_threads.specs.Sessions.{IsTold}

one_live : (part : PartState) → IfSome part.transcript (λ t. AreOfLive t.items) → All (λ (t : TranscriptState). AreOfLive t.items) (transcripts_of (part ∷ []))
one_live part live = grind arith

-- the journals of the service that is left are full, if an answer says so
pub full_notes : (core_service service : ServiceState) (ts : List TranscriptState) → core_service ≡ service → All (λ t. AreOfLive t.items) ts → All (IsFullIfTold core_service) ts → All (AreFullNotes service) ts
full_notes core_service service ts same live full = λ k d within i e there n is.
    let cause = live k d within i e there n is in
    (cause, subst (λ (s : ServiceState). length (journal_of s (get_or ts k d).id) ≡ 65536) same (full k d within i e there (n, is, cause)))

pub parts_more : (live : Type 0) (parts : List PartState) (part : PartState) (sections : List Section) (ts : List TranscriptState) (new_sections : List Section) (new_ts : List TranscriptState) →
    AreParts live parts sections ts → Adds live part sections ts new_sections new_ts → AreParts live (parts ++ part ∷ []) new_sections new_ts
parts_more live parts part sections ts new_sections new_ts are adds = record {
  each = All-push IsTold parts part are.each adds.is_part.told;
  of_live = λ is. rw adds.transcripts_are (All-append (λ (t : TranscriptState). AreOfLive t.items) ts (transcripts_of (part ∷ [])) (are.of_live is) (one_live part (adds.is_part.of_live is)));
  sections_are = adds.sections_are ∙ ap (λ s. s ++ part_told part ∷ []) are.sections_are ∙ sym (map_push part_told parts part);
  transcripts_are = adds.transcripts_are ∙ ap (λ t. t ++ transcripts_of (part ∷ [])) are.transcripts_are ∙ sym (filter_map-append (λ (p : PartState). p.transcript) parts (part ∷ []));
}
