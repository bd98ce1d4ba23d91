-- Private: sessions that are seated, started and have ended.
use Rattle.std.specs.Prelude.{◌≡◌, ◌≢◌, List, [], ◌∷◌, ◌++◌, length, map, All, AllPairs}
use Rattle.script_threads.specs.Prelude.{MAX_ENTRIES, JournalFull, Noted, ServiceState, journal_of, AreAllCalls, Note, AreOfLive, TranscriptState, Section}
use Rattle.script_threads.specs.declared.crowd.Started.{Started}
use Rattle.script_threads.specs.declared.crowd.Started.TheVariants.{Answered, Runs}
use Rattle.script_threads.specs.Refusals.{NoneLate}
use Rattle.script_threads.specs.Sessions.{Asked, IsPart, IsTold, PartState, asked_in, transcripts_of}

-- what a session asked that has its answers, or that runs
abbrev pub started_by : {C : Type 0} → Started C → Asked
started_by (Answered part) = asked_in part
started_by (Runs thread) = thread.promise.0.value

-- a part's text
abbrev pub part_told : PartState → Section
part_told part = record { name = part.name; text = part.text }

-- if a command is not served, then the journal is full, and the answer says so
abbrev pub AreFullNotes : ServiceState → TranscriptState → Type 0
AreFullNotes service t = All (λ i. (n : Noted) → i.place ≡ Note n → (n.cause ≡ JournalFull) × (length (journal_of service t.id) ≡ MAX_ENTRIES)) t.items

-- the parts' texts, and the transcripts of those that ran
pub record AreParts (live : Type 0) (parts : List PartState) (sections : List Section) (transcripts : List TranscriptState) : Type 0 where
  pub each : All IsTold parts
  pub of_live : live → All (λ t. AreOfLive t.items) transcripts
  pub sections_are : sections ≡ map part_told parts
  pub transcripts_are : transcripts ≡ transcripts_of parts

-- one more part
pub record Adds (live : Type 0) (part : PartState) (sections : List Section) (transcripts : List TranscriptState) (new_sections : List Section) (new_transcripts : List TranscriptState) : Type 0 where
  pub is_part : IsPart live part
  pub sections_are : new_sections ≡ sections ++ part_told part ∷ []
  pub transcripts_are : new_transcripts ≡ transcripts ++ transcripts_of (part ∷ [])

-- the parts have their answers, and calls of threads led from that service to the one that they
-- left
pub record Finishes (begun : ServiceState) (parts : List PartState) (sections : List Section) (service : ServiceState) : Type 0 where
  pub each : All IsTold parts
  pub sections_are : sections ≡ map part_told parts
  pub apart : AllPairs (λ t u. t.id ≢ u.id) (transcripts_of parts)
  pub notes : All (AreFullNotes service) (transcripts_of parts)
  pub none_late : All NoneLate (transcripts_of parts)
  pub calls : AreAllCalls begun service (transcripts_of parts)
