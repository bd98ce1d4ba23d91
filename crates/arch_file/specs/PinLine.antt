-- The line of a pin: its class, and the sides on which it can be reached.
use Rattle.std.specs.Prelude.{ℕ, nat_le, nat_lt, Bool, true, false, ◌&&◌, ◌||◌, not, List, [], ◌∷◌, ◌++◌, codes, Option, Some, None, option_map, if◌then◌else◌}
use Rattle.std.specs.List.{list_any, list_all}
use Rattle.std.specs.Option.{option_map_or}
use Rattle.std.specs.Str.{bytes_eq}
use Rattle.arch_file.specs.declared.arch.TheConstants.{MAX_INPUTS}
use Rattle.arch_file.specs.declared.arch.Pin.{Pin}
use Rattle.arch_file.specs.declared.arch.PinClass.{PinClass}
use Rattle.arch_file.specs.declared.arch.PinClass.TheVariants.{Input, Output, Clock}
use Rattle.arch_file.specs.declared.arch.Sides.{Sides}
use Rattle.arch_file.specs.declared.fault.ArchFaultKind.{ArchFaultKind}
use Rattle.arch_file.specs.declared.fault.ArchFaultKind.TheVariants.{BadClass, BadSide, OverLimit, Unknown}
use Rattle.arch_file.specs.declared.fault.ArchKeyword.{ArchKeyword}
use Rattle.arch_file.specs.declared.fault.ArchKeyword.TheVariants.{Inpin, Outpin}
use Rattle.arch_file.specs.FaultLists.{only_if}
use Rattle.arch_file.specs.Pins.{is_clock_class, is_input_class, input_count, clock_count, has_side}

-- the class that a word names
abbrev pub class_of : List ℕ → Option PinClass
class_of word =
    if bytes_eq word (codes "0") then Some Input
    else (if bytes_eq word (codes "1") then Some Output else (if bytes_eq word (codes "2") then Some Clock else None))

-- the word is among the words
abbrev pub has : List ℕ → List (List ℕ) → Bool
has word words = list_any (λ other. bytes_eq other word) words

-- a side, or `global`, which marks a pin of the global network
abbrev pub is_side_word : List ℕ → Bool
is_side_word word =
    bytes_eq word (codes "top")
    || (bytes_eq word (codes "bottom")
    || (bytes_eq word (codes "left") || (bytes_eq word (codes "right") || bytes_eq word (codes "global"))))

-- no word occurs twice
abbrev pub are_distinct : List (List ℕ) → Bool
are_distinct [] = true
are_distinct (word ∷ words) = not (has word words) && are_distinct words

-- the sides that the words name
abbrev pub sides_of : List (List ℕ) → Sides
sides_of words = record {
  top = has (codes "top") words;
  bottom = has (codes "bottom") words;
  left = has (codes "left") words;
  right = has (codes "right") words;
}

-- the words name the global network
abbrev pub is_global : List (List ℕ) → Bool
is_global words = has (codes "global") words

-- distinct words for sides or the global network, with at least one side
abbrev pub are_sides : List (List ℕ) → Bool
are_sides words = (list_all is_side_word words && are_distinct words) && has_side (sides_of words)

-- inputs and outputs aren't global, a clock is
abbrev pub class_fits : ArchKeyword → Option PinClass → Bool → Bool
class_fits Inpin (Some Input) global = not global
class_fits Inpin (Some Clock) global = global
class_fits Outpin (Some Output) global = not global
class_fits keyword class global = false

-- what is wrong with a pin of this class and the words after it, when these pins come before it
abbrev pub class_faults : List Pin → ArchKeyword → Option PinClass → List (List ℕ) → List ArchFaultKind
class_faults pins keyword class words =
    only_if (not (class_fits keyword class (is_global words)) || (option_map_or is_clock_class class false && nat_lt 0 (clock_count pins))) BadClass
    ++ (only_if (not (are_sides words)) BadSide
    ++ only_if (option_map_or is_input_class class false && nat_le MAX_INPUTS (input_count pins)) OverLimit)

-- what is wrong with the words after `class:`
abbrev pub pin_faults : List Pin → ArchKeyword → List (List ℕ) → List ArchFaultKind
pin_faults pins keyword [] = BadClass ∷ []
pin_faults pins keyword (class ∷ words) = class_faults pins keyword (class_of class) words

-- what is wrong with the words after the keyword
unfoldable pub pin_line_faults : List Pin → ArchKeyword → List (List ℕ) → List ArchFaultKind
pin_line_faults pins keyword [] = Unknown ∷ []
pin_line_faults pins keyword (word ∷ words) =
    if bytes_eq word (codes "class:") then pin_faults pins keyword words else Unknown ∷ []

-- the pin that the words after the keyword describe
unfoldable pub pin_in : List (List ℕ) → Option Pin
pin_in (word ∷ class ∷ words) = option_map (λ c. record { class = c; sides = sides_of words }) (class_of class)
pin_in words = None
