-- What one sees of a dialogue, and what each of its calls does.
use Rattle.std.specs.Prelude.{ℕ, ◌≡◌, ◌<◌, ◌≤◌, List, [], ◌∷◌, ◌++◌, length, take, Bool, true, Option, Some, None, Result, Ok, Err, ⊤}
use Rattle.std.specs.List.{flat_map}
use Rattle.std.specs.Io.KnownBytes.{Appends, Consumes, IsAtEnd, Keeps}
use Rattle.dialogue.specs.declared.dialogue.FailedDevice.{FailedDevice}

-- bytes of the input were kept, or bytes were written to the output
pub data Event : Type 0 where
  Kept : List ℕ → Event
  Told : List ℕ → Event

abbrev pub bytes_kept : Event → List ℕ
bytes_kept (Kept bytes) = bytes
bytes_kept (Told bytes) = []

abbrev pub bytes_told : Event → List ℕ
bytes_told (Kept bytes) = []
bytes_told (Told bytes) = bytes

-- all bytes that were kept, and all that were written, in order
abbrev pub kept_in : List Event → List ℕ
kept_in events = flat_map bytes_kept events

abbrev pub told_in : List Event → List ℕ
told_in events = flat_map bytes_told events

-- what one sees of a dialogue, each as far as it is known: the bytes of the input that are left,
-- whether there is a log, its bytes, those of the output, all events in order, and whether a device
-- has failed
pub record View : Type 0 where
  pub remaining : Option (List ℕ)
  pub has_log : Bool
  pub log : Option (List ℕ)
  pub output : Option (List ℕ)
  pub history : Option (List Event)
  pub has_failed : FailedDevice → Bool

-- known events are followed by those events
abbrev pub Follows : Option (List Event) → Option (List Event) → List Event → Type 0
Follows None new events = ⊤
Follows (Some before) None events = (Some before ≡ None)
Follows (Some before) (Some after) events = after ≡ before ++ events

-- those events happen, and nothing else
pub record Happens (old new : View) (events : List Event) : Type 0 where
  pub kept : Appends old.log new.log (kept_in events)
  pub told : Appends old.output new.output (told_in events)
  pub in_order : Follows old.history new.history events

-- a device has failed, and has taken a beginning
pub record Fails (old new : View) (fault : FailedDevice) (event : List ℕ → Event) (bytes : List ℕ) : Type 0 where
  pub count : ℕ
  pub happens : Happens old new (event (take count bytes) ∷ [])
  pub failed : new.has_failed fault ≡ true

-- bytes were read and kept; 0 bytes mean the end
pub record ReadsBytes (old new : View) (buffer : List ℕ) (count : ℕ) : Type 0 where
  pub within : count ≤ length buffer
  pub happens : Happens old new (Kept (take count buffer) ∷ [])
  pub consumes : Consumes old.remaining new.remaining (take count buffer)
  pub end : count ≡ 0 → 0 < length buffer → IsAtEnd new.remaining

abbrev pub Reads : View → View → List ℕ → Result ℕ FailedDevice → Type 0
Reads old new buffer (Ok count) = ReadsBytes old new buffer count
Reads old new buffer (Err fault) = Fails old new fault Kept buffer

-- bytes are written; the input stays as it is
abbrev pub Writes : View → View → List ℕ → Result (Unit {0}) FailedDevice → Type 0
Writes old new bytes (Ok u) = Happens old new (Told bytes ∷ []) × Keeps old.remaining new.remaining
Writes old new bytes (Err fault) = Fails old new fault Told bytes
