-- Sums of what came before, in a log.
use Rattle.std.specs.Prelude.{ℕ, ◌≡◌, ◌+◌, ◌*◌, ◌%◌, ◌^◌, ◌==◌, ◌||◌, ◌&&◌, Bool, true, false, not, nat_le, List, [], ◌∷◌, ◌++◌, bit_xor, codes, decimal, fold, length, Option, Some, None, Result, Ok, Err, IfSome, ⊤, if◌then◌else◌}
use Rattle.std.specs.List.{list_all}
use Rattle.std.specs.Str.{bytes_eq}
use Rattle.live_run.specs.Prelude.{rest_of, tag_of, with_feed, kept_lines}
use Rattle.live_run.specs.declared.sums.LogSum.{LogSum}
use Rattle.live_run.specs.declared.outcome.Outcome.{Outcome}
use Rattle.live_run.specs.declared.outcome.Outcome.TheVariants.{LogDiffers, LogUnreadable, NoMemory}
use Rattle.live_run.specs.declared.differing.LogDifference.TheVariants.{Changed}

-- the FNV-1a sum of bytes, of 64 bits, after those of that sum
abbrev pub with_byte : ℕ → ℕ → ℕ
with_byte sum byte = (bit_xor sum byte * 0x100000001b3) % 2 ^ 64

abbrev pub sum_after : ℕ → List ℕ → ℕ
sum_after sum bytes = fold with_byte sum bytes

abbrev pub sum_of : List ℕ → ℕ
sum_of bytes = sum_after 0xcbf29ce484222325 bytes

-- the line that says how many lines are before it, and which sum
abbrev pub sum_line : LogSum → List ℕ
sum_line s = codes "# sum " ++ decimal s.count ++ 32 ∷ decimal s.sum

-- a line says a sum if it is `# sum ` and two numbers, one blank between them
abbrev pub is_digit : ℕ → Bool
is_digit byte = nat_le 48 byte && nat_le byte 57

abbrev pub is_number : List ℕ → Bool
is_number word = nat_le 1 (length word) && list_all is_digit word

abbrev pub are_numbers : List ℕ → Bool
are_numbers words = is_number (tag_of words) && is_number (rest_of words)

abbrev pub says_sum : List ℕ → Bool
says_sum line = bytes_eq (tag_of line) (codes "#") && bytes_eq (tag_of (rest_of line)) (codes "sum") && are_numbers (rest_of (rest_of line))

-- it says another sum than that of the lines before it
abbrev pub differs : LogSum → List ℕ → Bool
differs s line = says_sum line && not (bytes_eq (sum_line s) line)

-- what lines come to, each with its LF: of a line the first 1,048,640 bytes count
abbrev pub no_lines : LogSum
no_lines = record { count = 0; sum = 0xcbf29ce484222325; is_said = false }

abbrev pub with_line : LogSum → List ℕ → LogSum
with_line s line = record { count = s.count + 1; sum = sum_after s.sum (with_feed line); is_said = says_sum line }

abbrev pub lines_sum : LogSum → List (List ℕ) → LogSum
lines_sum s lines = fold with_line s lines

-- the number of the first line that says another sum, if there is one
abbrev pub first_differing : LogSum → List (List ℕ) → Option ℕ
first_differing s [] = None
first_differing s (line ∷ lines) = if differs s line then Some (s.count + 1) else first_differing (with_line s line) lines

-- what a start adds to a log that begins with that line: that line, if there is none; or the sum of
-- its lines, unless it has no other line or its last line says it
abbrev pub added_line : List ℕ → LogSum → List ℕ
added_line first s = if s.count == 0 then first else if s.count == 1 || s.is_said then [] else with_feed (sum_line s)

-- lines are refused exactly if one of them says another sum; else they come to that
abbrev pub ChecksLines : List (List ℕ) → Result LogSum Outcome → Type 0
ChecksLines lines (Ok s) = (first_differing no_lines lines ≡ None) × (s ≡ lines_sum no_lines lines)
ChecksLines lines (Err (LogDiffers (Changed number))) = first_differing no_lines lines ≡ Some number
ChecksLines lines (Err LogUnreadable) = ⊤
ChecksLines lines (Err NoMemory) = ⊤
ChecksLines lines (Err outcome) = ⊥

-- and so are those of a log
abbrev pub ChecksLog : Option (List ℕ) → Result LogSum Outcome → Type 0
ChecksLog known result = IfSome known (λ bytes. ChecksLines (kept_lines bytes) result)

-- private: one more line comes
abbrev pub TakesNext : LogSum → List ℕ → Result LogSum Outcome → Type 0
TakesNext s line (Ok new) = (differs s line ≡ false) × (new ≡ with_line s line)
TakesNext s line (Err (LogDiffers (Changed number))) = (differs s line ≡ true) × (number ≡ s.count + 1)
TakesNext s line (Err LogUnreadable) = ⊤
TakesNext s line (Err NoMemory) = ⊤
TakesNext s line (Err outcome) = ⊥
