-- A whole session, from its input to its transcript.
use Rattle.std.specs.Prelude.{ℕ, ◌≡◌, ◌≢◌, List, [], ◌∷◌, ◌++◌, Bool, true, Option, Some, None, IfSome, ⊤}
use Rattle.std.specs.Io.KnownBytes.{Consumes, IsAtEnd}
use Rattle.session_threads.specs.Prelude.{physical_lines, TakesAll, TakesPart, SessionLine, items_of, TextSoFar, items_to_come, SessionEnd, Ended, ReaderFailed, WriterFailed, ItemAnswer, TranscriptState, transcript_with}
use Rattle.session_threads.specs.declared.items.Within.{Within}
use Rattle.session_threads.specs.declared.items.LineOutcome.{LineOutcome}
use Rattle.session_threads.specs.Inputs.{is_one_line}
use Rattle.session_threads.specs.Lines.{IsLine, LineSoFar}
use Rattle.session_threads.specs.Told.{AreTold, IsTold, noted_all, told_text, told_texts}
use Rattle.session_threads.specs.Outcomes.{IsWithin, TellsLine, TellsOutcome}

-- the text is written; or a beginning of it, if the writer failed
abbrev pub Wrote : {W : Type 0} → (W → Option (List ℕ)) → (W → Bool) → W → W → List ℕ → SessionEnd → Type 0
Wrote contents has_failed old new text Ended = TakesAll contents has_failed old new text
Wrote contents has_failed old new text ReaderFailed = TakesAll contents has_failed old new text
Wrote contents has_failed old new text WriterFailed = TakesPart contents has_failed old new text

-- the first items have these answers
abbrev pub FirstAreTold : ℕ → List SessionLine → List (Option ItemAnswer) → Type 0
FirstAreTold id all told = (items : List SessionLine) × (others : List SessionLine) × (all ≡ items ++ others) × AreTold id items told

-- after these bytes those items have ended, and that text is being read, if there is one
abbrev pub HaveEnded : List ℕ → List SessionLine → Option TextSoFar → Type 0
HaveEnded read items text = (more : List ℕ) → items_of (read ++ more) ≡ items ++ items_to_come text (physical_lines more)

-- if the session ended with its input, each item of the input is answered, in order; if the reader
-- failed, each item is answered that ended before the line in which it failed, and nothing was read
-- after the part of this line that was read; if the writer failed, the first items are answered
abbrev pub ToldOf : ℕ → List ℕ → Option (List ℕ) → SessionEnd → List (Option ItemAnswer) → Type 0
ToldOf id input left Ended told = AreTold id (items_of input) told
ToldOf id input left ReaderFailed told =
    (read : List ℕ) × (line : List ℕ) × (items : List SessionLine) × (text : Option TextSoFar)
    × Consumes (Some input) left (read ++ line) × (is_one_line line ≡ true) × HaveEnded read items text × AreTold id items told
ToldOf id input left WriterFailed told = FirstAreTold id (items_of input) told

-- the state of the devices at the end: the reader is at its end, or has failed
abbrev pub EndsReading : Option (List ℕ) → Bool → SessionEnd → Type 0
EndsReading input failed Ended = IsAtEnd input
EndsReading input failed ReaderFailed = failed ≡ true
EndsReading input failed WriterFailed = ⊤

-- the items have those answers: the transcript has them, they were written, and they answer what
-- the input asked, of which the reader has this left. An item that ran out of memory is answered
-- so, and counted
pub record WholeSession (id : ℕ) (input left : Option (List ℕ)) (wrote : List ℕ → SessionEnd → Type 0) (old : TranscriptState) (end : SessionEnd) (new : TranscriptState) : Type 0 where
  pub told : List (Option ItemAnswer)
  pub noted : new ≡ noted_all old told
  pub written : wrote (told_texts told) end
  pub asked : IfSome input (λ bytes. ToldOf id bytes left end told)

-- a session's transcript at its beginning
abbrev pub new_transcript : ℕ → TranscriptState
new_transcript id = record { id = id; items = []; no_memory = 0; end = None }

pub record IsSession (id : ℕ) (input left : Option (List ℕ)) (wrote : List ℕ → SessionEnd → Type 0) (result : TranscriptState) : Type 0 where
  pub how : SessionEnd
  pub before : TranscriptState
  pub ends : result ≡ record before { end = Some how }
  pub session : WholeSession id input left wrote (new_transcript id) how before

-- private: a line was served, and the session goes on
pub record GoesOn (id : ℕ) (input ahead : Option (List ℕ)) (within after : Within) (wrote : List ℕ → Type 0) (old new : TranscriptState) : Type 0 where
  pub told : List (Option ItemAnswer)
  pub noted : new ≡ noted_all old told
  pub written : wrote (told_texts told)
  pub line : List ℕ
  pub is_line : is_one_line line ≡ true
  pub read : Consumes input ahead (line ++ 10 ∷ [])
  pub asked : TellsLine id within line after told

-- private: if the reader failed, nothing was read ahead that isn't in a line
abbrev pub KeepsNoneAhead : SessionEnd → List ℕ → Type 0
KeepsNoneAhead Ended ahead = ⊤
KeepsNoneAhead ReaderFailed ahead = ahead ≡ []
KeepsNoneAhead WriterFailed ahead = ⊤

-- private: the answers to the items of the last bytes that were read
abbrev pub LastToldOf : ℕ → Option TextSoFar → List ℕ → Option (List ℕ) → SessionEnd → List (Option ItemAnswer) → Type 0
LastToldOf id text bytes ahead Ended told = IsAtEnd ahead × AreTold id (items_to_come text (physical_lines bytes)) told
LastToldOf id text bytes ahead ReaderFailed told = (is_one_line bytes ≡ true) × (told ≡ [])
LastToldOf id text bytes ahead WriterFailed told = IfSome ahead (λ rest. FirstAreTold id (items_to_come text (physical_lines (bytes ++ rest))) told)

-- private: the session ends
pub record Stops (id : ℕ) (input ahead : Option (List ℕ)) (within : Within) (wrote : List ℕ → SessionEnd → Type 0) (old : TranscriptState) (end : SessionEnd) (new : TranscriptState) : Type 0 where
  pub told : List (Option ItemAnswer)
  pub noted : new ≡ noted_all old told
  pub written : wrote (told_texts told) end
  pub bytes : List ℕ
  pub read : Consumes input ahead bytes
  pub asked : (text : Option TextSoFar) → IsWithin within text → LastToldOf id text bytes ahead end told

-- private: the session goes on, or it ends
abbrev pub Turns : ℕ → Option (List ℕ) → Option (List ℕ) → Within → Within → (List ℕ → SessionEnd → Type 0) → TranscriptState → Option SessionEnd → TranscriptState → Type 0
Turns id input ahead within after wrote old None new = GoesOn id input ahead within after (λ text. wrote text Ended) old new
Turns id input ahead within after wrote old (Some end) new = Stops id input ahead within wrote old end new

-- private: an item has an answer, which is written and noted
pub record TellsItem (id : ℕ) (item : SessionLine) (wrote : List ℕ → Type 0) (old new : TranscriptState) : Type 0 where
  pub told : Option ItemAnswer
  pub answers : IsTold id item told
  pub noted_is : new ≡ transcript_with old told
  pub written : wrote (told_text told)

-- private: a line's outcome has its answers, which are written and noted
pub record Serves (id : ℕ) (outcome : LineOutcome) (wrote : List ℕ → Type 0) (old new : TranscriptState) : Type 0 where
  pub told : List (Option ItemAnswer)
  pub answers : TellsOutcome id outcome told
  pub noted_is : new ≡ noted_all old told
  pub written : wrote (told_texts told)

-- private: the item at the input's end, if there is one, has an answer, which is written and noted
pub record Finishes (id : ℕ) (within : Within) (wrote : List ℕ → SessionEnd → Type 0) (old : TranscriptState) (end : SessionEnd) (new : TranscriptState) : Type 0 where
  pub told : List (Option ItemAnswer)
  pub noted_is : new ≡ noted_all old told
  pub written : wrote (told_texts told) end
  pub at_end : end ≢ ReaderFailed
  pub answers : (text : Option TextSoFar) → IsWithin within text → AreTold id (items_to_come text []) told

-- private: a line was served, of which this is kept
pub record ServesLine (id : ℕ) (within after : Within) (kept : LineSoFar) (wrote : List ℕ → Type 0) (old new : TranscriptState) : Type 0 where
  pub told : List (Option ItemAnswer)
  pub noted_is : new ≡ noted_all old told
  pub written : wrote (told_texts told)
  pub asked : (line : List ℕ) → IsLine kept line → TellsLine id within line after told

-- private: all items are answered, or the first ones
abbrev pub ToldAtEnd : SessionEnd → ℕ → List SessionLine → List (Option ItemAnswer) → Type 0
ToldAtEnd Ended id items told = AreTold id items told
ToldAtEnd ReaderFailed id items told = ⊥
ToldAtEnd WriterFailed id items told = FirstAreTold id items told

-- private: the last line was served, and the item at the input's end
pub record EndsInput (id : ℕ) (within : Within) (kept : LineSoFar) (wrote : List ℕ → SessionEnd → Type 0) (old : TranscriptState) (end : SessionEnd) (new : TranscriptState) : Type 0 where
  pub told : List (Option ItemAnswer)
  pub noted_is : new ≡ noted_all old told
  pub written : wrote (told_texts told) end
  pub at_end : end ≢ ReaderFailed
  pub asked : (line : List ℕ) → IsLine kept line → is_one_line line ≡ true → (text : Option TextSoFar) → IsWithin within text → ToldAtEnd end id (items_to_come text (physical_lines line)) told
