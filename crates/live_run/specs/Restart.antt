-- What a start makes of a log's file.
use Rattle.std.specs.Prelude.{ℕ, ◌≡◌, ◌⊎◌, ◌++◌, Bool, true, false, List, [], eqb, length, nat_lt, take, Option, Some, None, if◌then◌else◌, ⊤}
use Rattle.std.specs.List.{starts_with}
use Rattle.live_run.specs.Prelude.{Log, kept_lines}
use Rattle.live_run.specs.declared.differing.LogDifference.{LogDifference}
use Rattle.live_run.specs.declared.differing.LogDifference.TheVariants.{Changed}
use Rattle.live_run.specs.declared.outcome.Outcome.{Outcome}
use Rattle.live_run.specs.declared.outcome.Outcome.TheVariants.{LogUnreadable, LogDiffers, Stopped, NoMemory}
use Rattle.live_run.specs.Sums.{added_line, first_differing, lines_sum, no_lines}
use Rattle.live_run.specs.WholePart.{whole_bytes}

-- whether these bytes are a log with that first line, or a beginning of this line
abbrev pub is_log : List ℕ → List ℕ → Bool
is_log first bytes = starts_with eqb first (take (length first) bytes)

-- private: the number of bytes of whole lines; 0 of fewer bytes than that
abbrev pub whole_from : ℕ → List ℕ → ℕ
whole_from least bytes = if nat_lt (length bytes) least then 0 else whole_bytes bytes

-- what is kept of a log: its whole lines, and nothing of a first line that was cut off
abbrev pub kept_length : List ℕ → List ℕ → ℕ
kept_length first bytes = whole_from (length first) bytes

abbrev pub kept_part : List ℕ → List ℕ → List ℕ
kept_part first bytes = take (kept_length first bytes) bytes

-- the number of the first line that says another sum, if there is one
abbrev pub differing_line : List ℕ → Option ℕ
differing_line kept = first_differing no_lines (kept_lines kept)

-- what is added behind the lines that are kept
abbrev pub line_behind : List ℕ → List ℕ → List ℕ
line_behind first kept = added_line first (lines_sum no_lines (kept_lines kept))

-- a log with that first line, of which no line says another sum
abbrev pub CanRestart : List ℕ → List ℕ → Type 0
CanRestart first bytes = (is_log first bytes ≡ true) × (differing_line (kept_part first bytes) ≡ None)

-- The file was such a log. It then holds the lines that are kept, and the one that is added; and
-- this is read again.
pub record IsRestarted (first bytes : List ℕ) (after past : Option (List ℕ)) : Type 0 where
  pub can : CanRestart first bytes
  pub file : after ≡ Some (kept_part first bytes ++ line_behind first (kept_part first bytes))
  pub all : past ≡ after

-- memory ran out, or the file could not be read
abbrev pub IsUnread : Outcome → Type 0
IsUnread LogUnreadable = ⊤
IsUnread NoMemory = ⊤
IsUnread outcome = ⊥

-- private: the file does not begin as a log, or with another first line
abbrev pub IsOtherLog : LogDifference → Type 0
IsOtherLog (Changed number) = ⊥
IsOtherLog difference = ⊤

-- private: a line says another sum
abbrev pub IsSumRefusal : List ℕ → Outcome → Type 0
IsSumRefusal kept (LogDiffers (Changed number)) = differing_line kept ≡ Some number
IsSumRefusal kept (LogDiffers difference) = ⊥
IsSumRefusal kept outcome = IsUnread outcome

-- why a file is not opened: a line of it says another sum, or it is another log
abbrev pub IsRefusal : List ℕ → List ℕ → Outcome → Type 0
IsRefusal first bytes (LogDiffers (Changed number)) = (is_log first bytes ≡ true) × (differing_line (kept_part first bytes) ≡ Some number)
IsRefusal first bytes (LogDiffers difference) = is_log first bytes ≡ false
IsRefusal first bytes outcome = IsUnread outcome

-- the file has these lines and a beginning of the added one, or all of it, and can't be read again
abbrev pub IsLeftUnread : List ℕ → List ℕ → Option (List ℕ) → Outcome → Type 0
IsLeftUnread kept added after (Stopped Log) = (count : ℕ) × (after ≡ Some (kept ++ take count added))
IsLeftUnread kept added after LogUnreadable = after ≡ Some (kept ++ added)
IsLeftUnread kept added after outcome = ⊥

-- private: as much of the file is left, with these bytes
pub record IsLeft (whole : ℕ) (added bytes : List ℕ) (after past : Option (List ℕ)) : Type 0 where
  pub file : after ≡ Some (take whole bytes ++ added)
  pub all : past ≡ after

-- private: or that failed
abbrev pub EndsLeaving : ℕ → List ℕ → List ℕ → Option (List ℕ) → Outcome → Type 0
EndsLeaving whole added bytes after outcome = ((outcome ≡ LogUnreadable) × (after ≡ Some bytes)) ⊎ IsLeftUnread (take whole bytes) added after outcome

-- private: the line that is added, and no line says another sum
abbrev pub HasNextLine : List ℕ → List ℕ → List ℕ → Type 0
HasNextLine first kept line = (differing_line kept ≡ None) × (line ≡ line_behind first kept)

-- A file that is not opened stays as it is. One that is opened may fail when it is written or read
-- again.
abbrev pub EndsRestart : List ℕ → List ℕ → Option (List ℕ) → Outcome → Type 0
EndsRestart first bytes after outcome = (IsRefusal first bytes outcome × (after ≡ Some bytes)) ⊎ (CanRestart first bytes × IsLeftUnread (kept_part first bytes) (line_behind first (kept_part first bytes)) after outcome)
