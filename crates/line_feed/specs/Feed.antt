-- An input that is taken line by line.
use Rattle.std.specs.Prelude.{ℕ, ◌≡◌, List, [], ◌∷◌, true, Result, Ok, Err}
use Rattle.std.specs.Io.KnownBytes.{Consumes, IsAtEnd}
use Rattle.dialogue.specs.declared.dialogue.FailedDevice.{FailedDevice}
use Rattle.dialogue.specs.History.{Happens, View}
use Rattle.dialogue.specs.History.Event.{Kept}
use Rattle.line_feed.specs.declared.feed.LineFeed.{LineFeed as Feed}

-- the bytes that were read ahead, and what is kept of the line so far
abbrev pub ahead_of : Feed → List ℕ
ahead_of feed = feed.ahead

abbrev pub line_of : Feed → List ℕ
line_of feed = feed.line

-- these bytes were read and kept; if there are none, the input is at its end
pub record ReadsAhead (old new : View) (ahead : List ℕ) : Type 0 where
  pub happens : Happens old new (Kept ahead ∷ [])
  pub consumes : Consumes old.remaining new.remaining ahead
  pub end : ahead ≡ [] → IsAtEnd new.remaining

-- a device failed, and the log has kept some bytes
pub record FailsToRead (old new : View) (fault : FailedDevice) : Type 0 where
  pub bytes : List ℕ
  pub happens : Happens old new (Kept bytes ∷ [])
  pub failed : new.has_failed fault ≡ true

abbrev pub Refills : View → View → List ℕ → Result (Unit {0}) FailedDevice → Type 0
Refills old new ahead (Ok u) = ReadsAhead old new ahead
Refills old new ahead (Err fault) = FailsToRead old new fault
