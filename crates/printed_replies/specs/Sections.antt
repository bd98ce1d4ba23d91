-- The lines of each speaker, by their places among the lines of a script.
use Rattle.std.specs.Prelude.{ℕ, ◌≡◌, ◌+◌, List, [], ◌∷◌, map, Some, None, if◌then◌else◌}
use Rattle.printed_replies.specs.Replies.{AskedLine, Speaker, is_of, names_of}
use Rattle.printed_replies.specs.declared.sections.Sections.{Sections}

-- the places of a speaker's lines, if the first line is at that place
abbrev pub places_from : ℕ → Speaker → List AskedLine → List ℕ
places_from place speaker [] = []
places_from place speaker (line ∷ lines) = if is_of speaker line.speaker then place ∷ places_from (place + 1) speaker lines else places_from (place + 1) speaker lines

abbrev pub places_of : Speaker → List AskedLine → List ℕ
places_of speaker lines = places_from 0 speaker lines

-- for each name the places of its session's lines
abbrev pub session_places : List AskedLine → List (List ℕ)
session_places lines = map (λ name. places_of (Some name) lines) (names_of lines)

-- private: the names of the sessions, and the places of the operator's lines and of theirs
pub record AreSections (lines : List AskedLine) (sections : Sections) : Type 0 where
  pub names : sections.names ≡ names_of lines
  pub operator : sections.operator.items ≡ places_of None lines
  pub sessions : map (λ places. places.items) sections.sessions.items ≡ session_places lines
