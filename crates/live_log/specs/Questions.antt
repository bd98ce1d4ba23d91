-- What a service is asked, to see what its tenancies are.
use Rattle.std.specs.Prelude.{ℕ, ◌==◌, List, [], ◌∷◌, ◌++◌, Option, Some, None, codes, map, if◌then◌else◌}
use Rattle.std.specs.List.{flat_map}
use Rattle.live_log.specs.Prelude.{with_name, id_of, is_good_id, owner_of, tag_of}

-- the name of an owner that begins with `@`
abbrev pub name_of : List ℕ → Option (List ℕ)
name_of [] = None
name_of (byte ∷ name) = if byte == 64 then Some name else None

-- the name whose session says a line
abbrev pub speaker_of : List ℕ → Option (List ℕ)
speaker_of line = if is_good_id (id_of (tag_of line)) then name_of (owner_of (tag_of line)) else None

-- the names, and one more
abbrev pub with_one : List (List ℕ) → Option (List ℕ) → List (List ℕ)
with_one names None = names
with_one names (Some name) = with_name names name

-- the names, and those whose sessions say these lines
abbrev pub with_speakers : List (List ℕ) → List (List ℕ) → List (List ℕ)
with_speakers names [] = names
with_speakers names (line ∷ lines) = with_speakers (with_one names (speaker_of line)) lines

-- a line of that name's session
abbrev pub line_of : List ℕ → List ℕ → List ℕ
line_of name words = 64 ∷ name ++ 32 ∷ words

-- What each name is asked. The first line ends the text that the name's session is in, if it is in
-- one. The files are asked twice, before and after the job that runs.
abbrev pub words_asked : List (List ℕ)
words_asked =
    codes "." ∷ codes "status" ∷ codes "net" ∷ codes "placefile" ∷ codes "routefile"
    ∷ codes "wait" ∷ codes "net" ∷ codes "placefile" ∷ codes "routefile" ∷ []

-- the questions to a service in which these names speak
abbrev pub questions_to : List (List ℕ) → List (List ℕ)
questions_to names = flat_map (λ name. map (line_of name) words_asked) names

-- the questions to a service that was served these lines
abbrev pub questions_after : List (List ℕ) → List (List ℕ)
questions_after lines = codes "op list" ∷ codes "op owners" ∷ questions_to (with_speakers [] lines)
