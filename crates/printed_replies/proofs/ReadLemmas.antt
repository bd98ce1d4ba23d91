-- Lines that take their replies one after another, and sections.
use Rattle.printed_replies.proofs.Prelude.{◌≡◌, ℕ, ◌+◌, ◌<◌, List, [], ◌∷◌, ◌++◌, length, take, drop, set, slice_get, slice_index_or, Ok, Err, Some, arith, append_assoc, drop-set-lt, drop_more, get_or-map, length-map, map-set, take_more_set, get_or_from_slice_get, slice_get_within, Answered, answered_lines, AnsweredLine, Reading, Rest, Speaker, answered_line, line_read, lines_read, with_line, section_read, sections_read}

-- lines that are read already come before the others
abbrev pub behind_lines : List AnsweredLine → Reading (List AnsweredLine × Rest) → Reading (List AnsweredLine × Rest)
behind_lines front (Ok read) = Ok (front ++ read.0, read.1)
behind_lines front (Err left) = Err left

pub one_more : (front : List AnsweredLine) (line : AnsweredLine) (read : Reading (List AnsweredLine × Rest)) → behind_lines (front ++ line ∷ []) read ≡ behind_lines front (with_line line read)
one_more front line read = grind (arith, append_assoc)

-- a section ends, and the next one is read
name_at_place : (names : List (List ℕ)) (k : ℕ) (name : List ℕ) → slice_get names k ≡ Some name → drop k names ≡ name ∷ drop (k + 1) names
name_at_place names k name at = grind (arith, slice_get_within, get_or_from_slice_get, drop_more names k name (slice_get_within names k name at), slice_get_within names k name, get_or_from_slice_get names k name name)

pub section_is_read : (names : List (List ℕ)) (k : ℕ) (name : List ℕ) (old new : List AnsweredLine) (bytes : List ℕ) (rest : Rest) → slice_get names k ≡ Some name → section_read (Some name) old bytes ≡ Ok (new, rest) →
    sections_read (drop (k + 1) names) new rest.bytes ≡ sections_read (drop k names) old bytes
section_is_read names k name old new bytes rest at is = grind (arith, name_at_place)

pub section_is_not : (names : List (List ℕ)) (k left : ℕ) (name : List ℕ) (old : List AnsweredLine) (bytes : List ℕ) → slice_get names k ≡ Some name → section_read (Some name) old bytes ≡ Err left →
    sections_read (drop k names) old bytes ≡ Err left
section_is_not names k left name old bytes at stops = grind (arith, name_at_place)
