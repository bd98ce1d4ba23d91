-- The texts that have no end when the input ends.
use Rattle.std.specs.Prelude.{ℕ, ◌≡◌, ◌≤◌, List, [], ◌∷◌, ◌++◌, length, true, Option, ⊤, if◌then◌else◌}
use Rattle.std.specs.Str.{bytes_eq}
use Rattle.std.specs.Io.KnownBytes.{Appends}
use Rattle.live_lines.specs.Prelude.{Session, is_name, SessionLine, Refused, UnfinishedUpload, items_to_come, session_refusal_text, Tagged, have_tags, output_of, told_in}
use Rattle.live_lines.specs.declared.said.LastName.{LastName}
use Rattle.live_lines.specs.declared.said.LastName.TheVariants.{Missing, Unfinished}
use Rattle.live_lines.specs.declared.said.Said.{Said}
use Rattle.live_lines.specs.Acts.{Telling, Tells}
use Rattle.live_lines.specs.Laws.{items_for, replies_for}
use Rattle.live_lines.specs.Live.{LiveState}
use Rattle.live_lines.specs.Said.{texts_of}

-- each text that is still open is refused: these are the acts, and this is written; the service
-- stays as it is
pub record EndsTexts (old : LiveState) (tellings : List Telling) (told : List Tagged) : Type 0 where
  pub tells : Tells old.stage tellings old.stage
  pub items : (name : List ℕ) → is_name name ≡ true → items_to_come (old.texts name) [] ≡ items_for name tellings
  pub replies : (name : List ℕ) → told_in (64 ∷ name) told ≡ replies_for name tellings
  pub tags : have_tags told ≡ true

-- and nothing else is written
pub record Ends (old : LiveState) (before after : Option (List ℕ)) : Type 0 where
  pub tellings : List Telling
  pub told : List Tagged
  pub ends : EndsTexts old tellings told
  pub writes : Appends before after (output_of told)

-- private: the refusal of an open text, as an act with its reply
abbrev pub open_text_refusal : List ℕ → Telling
open_text_refusal name = record { act = Session name (Refused UnfinishedUpload); calls = []; text = session_refusal_text UnfinishedUpload }

-- private: the item that the input's end gives to a name
abbrev pub ending_for : List ℕ → LastName → List SessionLine
ending_for name (Unfinished other) = if bytes_eq other.now name then Refused UnfinishedUpload ∷ [] else []
ending_for name last = []

abbrev pub IsNamed : LastName → Type 0
IsNamed (Unfinished name) = is_name name.now ≡ true
IsNamed last = ⊤

-- private: there are at most as many readers as names
abbrev pub IsWithin : Said → Type 0
IsWithin said = length said.readers.items ≤ length said.names

-- private: the last name was removed, with the item that the input's end gives to it
pub record EndsLast (old : Said) (last : LastName) (new : Said) : Type 0 where
  pub named : IsNamed last
  pub items : (name : List ℕ) → is_name name ≡ true → items_to_come (texts_of old name) [] ≡ ending_for name last ++ items_to_come (texts_of new name) []
  pub missing : last ≡ Missing → (name : List ℕ) → items_to_come (texts_of old name) [] ≡ []
