-- Device files: the options of a device with their values, and comments.
use Rattle.std.specs.Prelude.{ℕ, ◌+◌, Bool, not, ◌&&◌, ◌||◌, ◌==◌, nat_lt, List, [], ◌∷◌, ◌++◌, length, codes, drop, position, slice_index, Option, Some, None, is_some, option_map, Result, Ok, Err, if◌then◌else◌}
use Rattle.std.specs.List.{before_first, list_all, list_any}
use Rattle.std.specs.Str.{bytes_eq}
use Rattle.line_text.specs.Decimal.{decimal_of}
use Rattle.line_text.specs.Lines.{physical_lines}
use Rattle.line_text.specs.Words.{is_blank, words_of}
use Rattle.device_file.specs.declared.fault.FaultKind.{FaultKind}
use Rattle.device_file.specs.declared.fault.FaultKind.TheVariants.{NotText, NotAnOption, Repeated, NoValue, NotANumber}

-- the options of a device
abbrev pub is_option : List ℕ → Bool
is_option name =
    bytes_eq name (codes "--arch") || bytes_eq name (codes "--tracks") || bytes_eq name (codes "--columns") || bytes_eq name (codes "--rows")
    || bytes_eq name (codes "--pads") || bytes_eq name (codes "--workers") || bytes_eq name (codes "--tenant-memory")

-- whether a text can be the value of an option: each but `--arch` has a number
abbrev pub is_value : List ℕ → List ℕ → Bool
is_value name text = bytes_eq name (codes "--arch") || is_some (decimal_of 32 text)

-- whether a word is no value: nothing, or the beginning of an option
abbrev pub is_no_value : List ℕ → Bool
is_no_value word = (length word == 0) || (slice_index word 0 == 45 && slice_index word 1 == 45)

-- whether a word begins a comment, which ends with its line
abbrev pub begins_comment : List ℕ → Bool
begins_comment word = slice_index word 0 == 35

-- whether a line has no control character
abbrev pub is_text : List ℕ → Bool
is_text line = list_all (λ byte. is_blank byte || (nat_lt 32 byte && not (byte == 127))) line

-- the name of `--NAME=VALUE`, or the whole word; the value, if there is one
abbrev pub name_in : List ℕ → List ℕ
name_in word = before_first (λ byte. byte == 61) word

abbrev pub text_in : List ℕ → Option (List ℕ)
text_in word = option_map (λ place. drop (place + 1) word) (position (λ byte. byte == 61) word)

-- an option and its value; an option whose value is still to come
pub record Given : Type 0 where
  pub name : List ℕ
  pub text : List ℕ
  pub line : ℕ

pub record Unfinished : Type 0 where
  pub name : List ℕ
  pub line : ℕ

-- what was read so far
pub record Read : Type 0 where
  pub values : List Given
  pub awaited : Option Unfinished

abbrev pub nothing_read : Read
nothing_read = record { values = []; awaited = None }

-- a fault: its line, its kind, and the word that is faulty
pub record FoundFault : Type 0 where
  pub line : ℕ
  pub kind : FaultKind
  pub word : List ℕ

abbrev pub Step : Type 0
Step = Result Read FoundFault

abbrev pub refusal : {A : Type 0} → ℕ → FaultKind → List ℕ → Result A FoundFault
refusal line kind word = Err (record { line = line; kind = kind; word = word })

-- an option with its value
abbrev pub value_read : Read → List ℕ → List ℕ → ℕ → Step
value_read read name text line =
    if is_no_value text then refusal line NoValue name else
    if not (is_value name text) then refusal line NotANumber text else
    Ok (record { values = read.values ++ record { name = name; text = text; line = line } ∷ []; awaited = None })

-- whether an option was read already
abbrev pub is_given : List Given → List ℕ → Bool
is_given values name = list_any (λ value. bytes_eq value.name name) values

-- an option whose value follows an `=`, or is the next word
abbrev pub value_or_await : Read → List ℕ → Option (List ℕ) → ℕ → Step
value_or_await read name (Some text) line = value_read read name text line
value_or_await read name None line = Ok (record { values = read.values; awaited = Some (record { name = name; line = line }) })

abbrev pub option_read : Read → List ℕ → ℕ → Step
option_read read word line =
    if not (is_option (name_in word)) then refusal line NotAnOption word else
    if is_given read.values (name_in word) then refusal line Repeated (name_in word) else
    value_or_await read (name_in word) (text_in word) line

-- a word is an option, or the value of the one before it
abbrev pub option_or_value : Read → Option Unfinished → List ℕ → ℕ → Step
option_or_value read None word line = option_read read word line
option_or_value read (Some awaited) word line = value_read read awaited.name word awaited.line

abbrev pub word_read : Read → List ℕ → ℕ → Step
word_read read word line = option_or_value read read.awaited word line

abbrev pub then_read : (Read → ℕ → Step) → ℕ → Step → Step
then_read next line (Ok read) = next read line
then_read next line (Err fault) = Err fault

-- the words of a line up to its comment, and the lines after that number of lines
unfoldable pub words_read : List (List ℕ) → Read → ℕ → Step
words_read [] read line = Ok read
words_read (word ∷ words) read line =
    if begins_comment word then Ok read else then_read (words_read words) line (word_read read word line)

abbrev pub line_read : Read → List ℕ → ℕ → Step
line_read read line number = if is_text line then words_read (words_of line) read number else refusal number NotText []

unfoldable pub lines_read : List (List ℕ) → Read → ℕ → Step
lines_read [] read number = Ok read
lines_read (line ∷ lines) read number = then_read (lines_read lines) (number + 1) (line_read read line (number + 1))

-- at the end, no option is without its value
abbrev pub all_values : List Given → Option Unfinished → Result (List Given) FoundFault
all_values values None = Ok values
all_values values (Some awaited) = refusal awaited.line NoValue awaited.name

abbrev pub values_at_end : Step → Result (List Given) FoundFault
values_at_end (Ok read) = all_values read.values read.awaited
values_at_end (Err fault) = Err fault

-- the options of a device file with their values, or its first fault
unfoldable pub values_in : List ℕ → Result (List Given) FoundFault
values_in text = values_at_end (lines_read (physical_lines text) nothing_read 0)
