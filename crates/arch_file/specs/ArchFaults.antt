-- All faults of the lines of an architecture text.
use Rattle.std.specs.Prelude.{ℕ, ◌==◌, nat_lt, Bool, true, false, ◌&&◌, not, List, [], ◌∷◌, ◌++◌, map, filter, drop, Option, Some, None, is_some, if◌then◌else◌}
use Rattle.std.specs.List.{filter_map}
use Rattle.std.specs.Option.{option_map_or}
use Rattle.line_text.specs.LeastFault.{Found}
use Rattle.line_text.specs.Lines.{JoinedLine}
use Rattle.arch_file.specs.declared.arch.Pin.{Pin}
use Rattle.arch_file.specs.declared.fault.ArchFault.{ArchFault}
use Rattle.arch_file.specs.declared.fault.ArchFaultKind.{ArchFaultKind}
use Rattle.arch_file.specs.declared.fault.ArchFaultKind.TheVariants.{BadClass, Missing, Repeated, Unknown}
use Rattle.arch_file.specs.declared.fault.ArchKeyword.{ArchKeyword}
use Rattle.arch_file.specs.declared.fault.ArchKeyword.TheVariants.{FcType, Segment, SubblocksPerClb}
use Rattle.arch_file.specs.FaultLists.{only_if, word_of}
use Rattle.arch_file.specs.Faults.{number_of}
use Rattle.arch_file.specs.Pins.{input_count, output_count, clock_count}
use Rattle.arch_file.specs.PinLine.{pin_in, pin_line_faults}
use Rattle.arch_file.specs.Segment.{segment_faults}
use Rattle.arch_file.specs.Values.{decimal_from, is_fractional_from, value_faults, whole_from}
use Rattle.arch_file.specs.Words.{is_pin_keyword, is_unread, keyword_of, required_keywords, same_keyword}

-- the line begins with the keyword
abbrev pub begins_with : ArchKeyword → List (List ℕ) → Bool
begins_with keyword [] = false
begins_with keyword (word ∷ words) = option_map_or (same_keyword keyword) (keyword_of word) false

-- the words after the keyword, on the first line that begins with it
abbrev pub words_at : ArchKeyword → List JoinedLine → Option (List (List ℕ))
words_at keyword [] = None
words_at keyword (line ∷ lines) =
    if begins_with keyword line.words then Some (drop 1 line.words) else words_at keyword lines

-- some line begins with the keyword
abbrev pub stands : ArchKeyword → List JoinedLine → Bool
stands keyword lines = is_some (words_at keyword lines)

-- the whole number after the keyword
abbrev pub whole_at : ArchKeyword → List JoinedLine → ℕ
whole_at keyword lines = whole_from (words_at keyword lines)

-- the decimal after the keyword, in millionths
abbrev pub decimal_at : ArchKeyword → List JoinedLine → ℕ
decimal_at keyword lines = decimal_from (words_at keyword lines)

-- whether the numbers of tracks are given as fractions of all tracks
abbrev pub is_fractional : List JoinedLine → Bool
is_fractional lines = is_fractional_from (words_at FcType lines)

-- the pin of a line, from its keyword and the words after it
abbrev pub pin_after : Option ArchKeyword → List (List ℕ) → Option Pin
pin_after None words = None
pin_after (Some keyword) words = if is_pin_keyword keyword then pin_in words else None

-- the pin of a line
abbrev pub pin_of_words : List (List ℕ) → Option Pin
pin_of_words [] = None
pin_of_words (word ∷ words) = pin_after (keyword_of word) words

-- the pins in the order of their lines
abbrev pub pins_of : List JoinedLine → List Pin
pins_of lines = filter_map (λ line. pin_of_words line.words) lines

-- the faults of a line that begins with the keyword, after the lines before it
abbrev pub keyword_faults : List JoinedLine → ArchKeyword → List (List ℕ) → List ArchFaultKind
keyword_faults before keyword words =
    if is_pin_keyword keyword then pin_line_faults (pins_of before) keyword words
    else (if same_keyword keyword Segment then segment_faults (stands keyword before) words
    else only_if (stands keyword before) Repeated ++ value_faults keyword words)

-- the faults of a line, by its first word, after the lines before it
abbrev pub first_word_faults : List JoinedLine → List ℕ → Option ArchKeyword → List (List ℕ) → List ArchFaultKind
first_word_faults before word None words = only_if (not (is_unread word)) Unknown
first_word_faults before word (Some keyword) words = keyword_faults before keyword words

-- the faults of a line's words, after the lines before it
abbrev pub faults_of : List JoinedLine → List (List ℕ) → List ArchFaultKind
faults_of before [] = []
faults_of before (word ∷ words) = first_word_faults before word (keyword_of word) words

-- there is an input, as many outputs as BLEs, and a clock
abbrev pub has_its_pins : List JoinedLine → Bool
has_its_pins lines =
    nat_lt 0 (input_count (pins_of lines))
    && ((output_count (pins_of lines) == whole_at SubblocksPerClb lines) && nat_lt 0 (clock_count (pins_of lines)))

-- the faults of the whole text
abbrev pub end_faults : List JoinedLine → List ArchFaultKind
end_faults lines =
    map (λ keyword. Missing keyword) (filter (λ keyword. not (stands keyword lines)) required_keywords)
    ++ only_if (not (has_its_pins lines)) BadClass

-- faults at the line with this number, or at the end
abbrev pub found_at : Bool → ℕ → List ArchFaultKind → List (Found ArchFault)
found_at at_end number kinds = map (λ kind. record { at_end = at_end; line = number; number = number_of kind; word = word_of kind; fault = record { line = number; kind = kind } }) kinds

-- all faults of the later lines, after the lines before them, and those of the end
abbrev pub faults_after : List JoinedLine → List JoinedLine → List (Found ArchFault)
faults_after before [] = found_at true 0 (end_faults before)
faults_after before (line ∷ lines) =
    found_at false line.number (faults_of before line.words) ++ faults_after (before ++ line ∷ []) lines
