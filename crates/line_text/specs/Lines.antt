-- Joined lines of words.
use Rattle.std.specs.Prelude.{ℕ, ◌-◌, Bool, not, ◌&&◌, ◌||◌, ◌==◌, nat_lt, nat_le, if◌then◌else◌, List, [], ◌∷◌, ◌++◌, length, take, drop, map, filter, slice_get, slice_index, Result, Ok, Err, Option, Some, None}
use Rattle.std.specs.List.{before_first, suffix_len, list_all, find, filter_map, flat_map, enumerate_from, onto_first}
use Rattle.std.specs.Option.{option_map, option_map_or, option_or}
use Rattle.line_text.specs.declared.fault.LineFault.{LineFault}
use Rattle.line_text.specs.declared.fault.LineFault.TheVariants.{NotAscii, LineTooLong}
use Rattle.line_text.specs.declared.lines.TheConstants.{MAX_LINE}
use Rattle.line_text.specs.Words.{is_blank, is_filled, words_of}

-- a joined line: the number of its first physical line, from 1, and its words
pub record JoinedLine : Type 0 where
  pub number : ℕ
  pub words : List (List ℕ)

-- the line with one more word in front
abbrev pub with_first : List ℕ → JoinedLine → JoinedLine
with_first word line = record { number = line.number; words = word ∷ line.words }

-- the line without its first word
abbrev pub without_first : JoinedLine → JoinedLine
without_first line = record { number = line.number; words = drop 1 line.words }

-- the physical lines: each ends at LF or at the end of the text
abbrev pub physical_lines : List ℕ → List (List ℕ)
physical_lines [] = []
physical_lines (byte ∷ rest) =
    if byte == 10 then [] ∷ physical_lines rest else onto_first byte (physical_lines rest)

-- a physical line up to its comment, which begins at `#`
abbrev pub without_comment : List ℕ → List ℕ
without_comment line = before_first (λ byte. byte == 35) line

-- the bytes without the blanks at their end
abbrev pub trim_end : List ℕ → List ℕ
trim_end bytes = take (length bytes - suffix_len is_blank bytes) bytes

-- whether the last of these bytes is `\`
abbrev pub ends_in_backslash : List ℕ → Bool
ends_in_backslash bytes = slice_index bytes (length bytes - 1) == 92

-- the bytes without the last one
abbrev pub without_last : List ℕ → List ℕ
without_last bytes = take (length bytes - 1) bytes

-- whether a physical line is continued on the next one
abbrev pub is_continued : List ℕ → Bool
is_continued line = ends_in_backslash (trim_end (without_comment line))

-- what a physical line adds to its joined line: a final `\` becomes a blank
abbrev pub joined_part : List ℕ → List ℕ
joined_part line = if is_continued line then without_last (trim_end (without_comment line)) ++ 32 ∷ [] else trim_end (without_comment line)

-- whether a byte is allowed outside comments: a blank, or a printing ASCII character
abbrev pub is_lawful : ℕ → Bool
is_lawful byte = is_blank byte || (nat_le 33 byte && nat_le byte 126)

-- whether a physical line has a byte outside comments that is not allowed
abbrev pub is_not_ascii : List ℕ → Bool
is_not_ascii line = not (list_all is_lawful (without_comment line))

-- the numbered physical lines in runs: a run continues for as long as its lines are continued
abbrev pub runs : List (ℕ × List ℕ) → List (List (ℕ × List ℕ))
runs [] = []
runs (line ∷ rest) = if is_continued line.1 then onto_first line (runs rest) else (line ∷ []) ∷ runs rest

-- the bytes of the joined line of a run
abbrev pub joined_bytes : List (ℕ × List ℕ) → List ℕ
joined_bytes run = flat_map (λ line. joined_part line.1) run

-- the joined line of a run, with the number of its first line
abbrev pub joined_line : List (ℕ × List ℕ) → JoinedLine
joined_line run = record { number = slice_index (map (λ line. line.0) run) 0; words = words_of (joined_bytes run) }

-- whether the joined line of a run has words and too many bytes
abbrev pub is_too_long : List (ℕ × List ℕ) → Bool
is_too_long run = is_filled (words_of (joined_bytes run)) && nat_lt MAX_LINE (length (joined_bytes run))

-- what is wrong with a run: a line that is not ASCII is reported before the length of the whole run
abbrev pub fault_of : List (ℕ × List ℕ) → Option LineFault
fault_of run =
    option_or (option_map (λ line. NotAscii line.0) (find (λ line. is_not_ascii line.1) run)) (if is_too_long run then Some (LineTooLong (joined_line run).number) else None)

-- the joined lines that have words, or the fault of the first run that has one
abbrev pub lines_of_runs : List (List (ℕ × List ℕ)) → Result (List JoinedLine) LineFault
lines_of_runs all = option_map_or Err (slice_get (filter_map fault_of all) 0) (Ok (filter (λ line. is_filled line.words) (map joined_line all)))

-- the joined lines of a text that have words, or the least fault
unfoldable pub lines_of : List ℕ → Result (List JoinedLine) LineFault
lines_of text = lines_of_runs (runs (enumerate_from 1 (physical_lines text)))
