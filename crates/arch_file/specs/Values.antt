-- The values after the keywords, and what can be wrong with them.
use Rattle.std.specs.Prelude.{ℕ, ◌==◌, ◌*◌, ◌/◌, min, max, nat_lt, Bool, false, ◌||◌, List, [], ◌∷◌, codes, Option, Some, None, option_and_then, unwrap_or, if◌then◌else◌}
use Rattle.std.specs.Option.{option_map_or}
use Rattle.std.specs.Str.{bytes_eq}
use Rattle.arch_file.specs.declared.arch.TheConstants.{MAX_CLUSTER_SIZE}
use Rattle.line_text.specs.Decimal.{whole_of, millionths_of}
use Rattle.arch_file.specs.declared.fault.ArchFaultKind.{ArchFaultKind}
use Rattle.arch_file.specs.declared.fault.ArchFaultKind.TheVariants.{BadNumber, NotProfile, OverLimit}
use Rattle.arch_file.specs.declared.fault.ArchKeyword.{ArchKeyword}
use Rattle.arch_file.specs.declared.fault.ArchKeyword.TheVariants.{IoRat, ChanWidthIo, ChanWidthX, ChanWidthY, SubblocksPerClb, SubblockLutSize, FcType, FcOutput, FcInput, FcPad, SwitchBlockType}
use Rattle.arch_file.specs.Words.{only_word}

-- the words as one whole number
abbrev pub whole_in : List (List ℕ) → Option ℕ
whole_in words = option_and_then whole_of (only_word words)

-- the words as one decimal, in millionths
abbrev pub decimal_in : List (List ℕ) → Option ℕ
decimal_in words = option_and_then millionths_of (only_word words)

-- 1, in millionths
abbrev pub one : ℕ
one = 1000000

-- a whole number from 1 to the limit
abbrev pub whole_faults : ℕ → Option ℕ → List ArchFaultKind
whole_faults limit None = BadNumber ∷ []
whole_faults limit (Some number) =
    if number == 0 then BadNumber ∷ [] else (if nat_lt limit number then OverLimit ∷ [] else [])

-- any decimal
abbrev pub decimal_faults : Option ℕ → List ArchFaultKind
decimal_faults None = BadNumber ∷ []
decimal_faults (Some value) = []

-- a decimal that must be 1
abbrev pub one_faults : ArchKeyword → Option ℕ → List ArchFaultKind
one_faults keyword None = BadNumber ∷ []
one_faults keyword (Some value) = if value == one then [] else NotProfile keyword ∷ []

-- the width of channels: uniform, and 1
abbrev pub width_faults : ArchKeyword → List (List ℕ) → List ArchFaultKind
width_faults keyword [] = BadNumber ∷ []
width_faults keyword (kind ∷ words) =
    if bytes_eq kind (codes "uniform") then one_faults keyword (decimal_in words) else NotProfile keyword ∷ []

-- a word that passes a test
abbrev pub word_faults : ArchKeyword → (List ℕ → Bool) → Option (List ℕ) → List ArchFaultKind
word_faults keyword passes None = BadNumber ∷ []
word_faults keyword passes (Some word) = if passes word then [] else NotProfile keyword ∷ []

-- whether the word gives numbers of tracks as fractions of all tracks
abbrev pub is_fractional_word : List ℕ → Bool
is_fractional_word word = bytes_eq word (codes "fractional")

-- whether the word is a way of giving numbers of tracks
abbrev pub is_fc_type : List ℕ → Bool
is_fc_type word = bytes_eq word (codes "absolute") || is_fractional_word word

-- whether the word is the one kind of switch block
abbrev pub is_subset : List ℕ → Bool
is_subset word = bytes_eq word (codes "subset")

-- the whole number of the words, 0 if they are missing or aren't one
abbrev pub whole_from : Option (List (List ℕ)) → ℕ
whole_from words = unwrap_or (option_and_then whole_in words) 0

-- the decimal of the words, in millionths, 0 if they are missing or aren't one
abbrev pub decimal_from : Option (List (List ℕ)) → ℕ
decimal_from words = unwrap_or (option_and_then decimal_in words) 0

-- whether the words give fractions; false if they are missing
abbrev pub is_fractional_from : Option (List (List ℕ)) → Bool
is_fractional_from words = option_map_or is_fractional_word (option_and_then only_word words) false

-- what is wrong with the words after a keyword that has a value
unfoldable pub value_faults : ArchKeyword → List (List ℕ) → List ArchFaultKind
value_faults IoRat words = whole_faults 8 (whole_in words)
value_faults ChanWidthIo words = one_faults ChanWidthIo (decimal_in words)
value_faults ChanWidthX words = width_faults ChanWidthX words
value_faults ChanWidthY words = width_faults ChanWidthY words
value_faults SubblocksPerClb words = whole_faults MAX_CLUSTER_SIZE (whole_in words)
value_faults SubblockLutSize words = whole_faults 8 (whole_in words)
value_faults FcType words = word_faults FcType is_fc_type (only_word words)
value_faults FcOutput words = decimal_faults (decimal_in words)
value_faults FcInput words = decimal_faults (decimal_in words)
value_faults FcPad words = decimal_faults (decimal_in words)
value_faults SwitchBlockType words = word_faults SwitchBlockType is_subset (only_word words)
value_faults keyword words = []

-- the number of tracks that a pin reaches: the given number or fraction of all tracks, rounded
-- down, at least 1 and at most all
abbrev pub reach : Bool → ℕ → ℕ → ℕ
reach is_fractional value tracks = min tracks (max 1 ((if is_fractional then value * tracks else value) / one))
