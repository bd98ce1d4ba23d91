-- The segment line: pairs of a key and a value.
use Rattle.std.specs.Prelude.{ℕ, ◌==◌, ◌%◌, Bool, false, ◌&&◌, ◌||◌, nat_eq, not, List, [], ◌∷◌, ◌++◌, length, codes, Some, if◌then◌else◌}
use Rattle.std.specs.Option.{option_eq}
use Rattle.std.specs.Str.{bytes_eq}
use Rattle.line_text.specs.Decimal.{millionths_of}
use Rattle.arch_file.specs.declared.fault.ArchFaultKind.{ArchFaultKind}
use Rattle.arch_file.specs.declared.fault.ArchFaultKind.TheVariants.{BadNumber, NotProfile}
use Rattle.arch_file.specs.declared.fault.ArchKeyword.TheVariants as keywords
use Rattle.arch_file.specs.Values.{one}
use Rattle.arch_file.specs.FaultLists.{only_if}

-- the values that follow this key
abbrev pub values_under : List ℕ → List (List ℕ) → List (List ℕ)
values_under key (word ∷ value ∷ words) =
    if bytes_eq word key then value ∷ values_under key words else values_under key words
values_under key words = []

-- there is exactly one value, and it is the decimal 1
abbrev pub is_one : List (List ℕ) → Bool
is_one (value ∷ []) = option_eq nat_eq (millionths_of value) (Some one)
is_one values = false

-- each of the four keys that must be 1 is 1
abbrev pub are_ones : List (List ℕ) → Bool
are_ones words =
    is_one (values_under (codes "frequency:") words)
    && (is_one (values_under (codes "length:") words)
    && (is_one (values_under (codes "Frac_cb:") words) && is_one (values_under (codes "Frac_sb:") words)))

-- what is wrong with the words after `segment`, and whether another `segment` line came before
unfoldable pub segment_faults : Bool → List (List ℕ) → List ArchFaultKind
segment_faults is_second words =
    only_if (length words % 2 == 1) BadNumber ++ only_if (is_second || not (are_ones words)) (NotProfile keywords.Segment)
