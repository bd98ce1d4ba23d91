-- The files of names that are written.
use Rattle.std.specs.Prelude.{ℕ, List, [], ◌∷◌, ◌++◌, length, slice_get, slice_index_or, Option, Some, None, if◌then◌else◌, codes}
use Rattle.std.specs.List.{flat_map, range_with_len}
use Rattle.std.specs.Option.{option_map_or}
use Rattle.std.specs.Str.{is_utf8}
use Rattle.desk_replies.specs.Prelude.{NamedBytes, asked_in, AnsweredLine, names_of, session_places, NameAccount, told_text, ToldLine}

-- the bytes, under a name of that kind in the folder
abbrev pub named_bytes : List ℕ → List ℕ → List ℕ → List ℕ → NamedBytes
named_bytes folder name kind bytes = record { folder = folder; name = name; kind = kind; bytes = bytes }

-- the file with this text, if there is one
abbrev pub if_present : List ℕ → List ℕ → List ℕ → Option (List ℕ) → List NamedBytes
if_present folder name kind (Some text) = named_bytes folder name kind text ∷ []
if_present folder name kind None = []

-- the present files of a name; a name that isn't UTF-8 has none
abbrev pub files_of_name : List ℕ → NameAccount → List NamedBytes
files_of_name folder account = if is_utf8 account.name then
    (if_present folder account.name (codes "net") account.files.net.text
    ++ (if_present folder account.name (codes "place") account.files.place.text ++ if_present folder account.name (codes "route") account.files.route.text))
    else []

-- the line at that place, if there is one
abbrev pub line_at : List ToldLine → ℕ → List ToldLine
line_at told place = option_map_or (λ line. line ∷ []) (slice_get told place) []

-- the lines at these places
abbrev pub lines_at : List ToldLine → List ℕ → List ToldLine
lines_at told places = flat_map (line_at told) places

-- the file with the lines of a name
abbrev pub replies_file : List ℕ → List ℕ → List ℕ → List NamedBytes
replies_file folder name lines = if is_utf8 name then named_bytes folder name (codes "replies") lines ∷ [] else []

-- that of the name with this number: its lines with their replies, as they are told
abbrev pub replies_by_number : List ℕ → List ToldLine → List AnsweredLine → ℕ → List NamedBytes
replies_by_number folder told replies number =
    replies_file folder (slice_index_or (names_of (asked_in replies)) number []) (flat_map told_text (lines_at told (slice_index_or (session_places (asked_in replies)) number [])))

-- those of all names
abbrev pub replies_files : List ℕ → List ToldLine → List AnsweredLine → List NamedBytes
replies_files folder told replies = flat_map (replies_by_number folder told replies) (range_with_len 0 (length (names_of (asked_in replies))))
