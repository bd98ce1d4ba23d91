-- Lists of faults of a line or of the end, and the order in which kinds are reported.
use Rattle.std.specs.Prelude.{ℕ, nat_le, Bool, List, [], ◌∷◌, if◌then◌else◌}
use Rattle.std.specs.List.{position_or_len}
use Rattle.line_text.specs.LeastFault.{by_number}
use Rattle.arch_file.specs.declared.fault.ArchFaultKind.{ArchFaultKind}
use Rattle.arch_file.specs.declared.fault.ArchFaultKind.TheVariants.{Missing}
use Rattle.arch_file.specs.Faults.{number_of}
use Rattle.arch_file.specs.Words.{required_keywords, same_keyword}

-- one fault if the test is met, otherwise no fault
abbrev pub only_if : Bool → ArchFaultKind → List ArchFaultKind
only_if test kind = if test then kind ∷ [] else []

-- missing keywords are ordered by their index among the required ones; other kinds have 0
abbrev pub word_of : ArchFaultKind → ℕ
word_of (Missing keyword) = position_or_len (same_keyword keyword) required_keywords
word_of kind = 0

-- a kind of fault comes before another one on one line, or has the same number and word
abbrev pub comes_before : ArchFaultKind → ArchFaultKind → Bool
comes_before first second = by_number (number_of first) (number_of second) (nat_le (word_of first) (word_of second))
