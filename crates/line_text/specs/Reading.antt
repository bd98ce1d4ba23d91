-- Private: what has been read of a text after some of its physical lines.
use Rattle.std.specs.Prelude.{ℕ, ◌+◌, Bool, true, false, nat_lt, if◌then◌else◌, List, [], ◌∷◌, ◌++◌, length, Result, Ok, Err, Option, Some, None}
use Rattle.line_text.specs.declared.fault.LineFault.{LineFault}
use Rattle.line_text.specs.declared.fault.LineFault.TheVariants.{NotAscii, LineTooLong}
use Rattle.line_text.specs.Words.{is_filled, words_of}
use Rattle.line_text.specs.declared.lines.TheConstants.{MAX_LINE}
use Rattle.line_text.specs.Lines.{JoinedLine, is_not_ascii, is_continued, joined_part}

-- a joined line so far: its number, its words and its length in bytes
pub record OpenLine : Type 0 where
  pub number : ℕ
  pub words : List (List ℕ)
  pub count : ℕ

-- the lines that have ended, and the one that is still open
pub record Reading : Type 0 where
  pub done : List JoinedLine
  pub unfinished : Option OpenLine

-- the line to which a physical line with this number belongs
abbrev pub line_to_extend : Option OpenLine → ℕ → OpenLine
line_to_extend None n = record { number = n; words = []; count = 0 }
line_to_extend (Some line) n = line

-- the line with one more physical line
abbrev pub longer_line : OpenLine → List ℕ → OpenLine
longer_line line physical = record { number = line.number; words = line.words ++ words_of (joined_part physical); count = line.count + length (joined_part physical) }

-- the lines after this one has ended too
abbrev pub lines_with : List JoinedLine → OpenLine → Result (List JoinedLine) LineFault
lines_with done line =
    if is_filled line.words then (if nat_lt MAX_LINE line.count then Err (LineTooLong line.number) else Ok (done ++ record { number = line.number; words = line.words } ∷ [])) else Ok done

-- the lines, with no line open
abbrev pub closed_reading : Result (List JoinedLine) LineFault → Result Reading LineFault
closed_reading (Ok lines) = Ok (record { done = lines; unfinished = None })
closed_reading (Err fault) = Err fault

-- the state after a physical line was added to an open line
abbrev pub continued_or_ended : Bool → List JoinedLine → OpenLine → Result Reading LineFault
continued_or_ended true done line = Ok (record { done = done; unfinished = Some line })
continued_or_ended false done line = closed_reading (lines_with done line)

-- the state after one more physical line, with this number
abbrev pub reading_after : Reading → ℕ → List ℕ → Result Reading LineFault
reading_after reading n physical =
    if is_not_ascii physical then Err (NotAscii n) else continued_or_ended (is_continued physical) reading.done (longer_line (line_to_extend reading.unfinished n) physical)

-- the lines at the end of the text, when the last one may still be open
abbrev pub ended_if_open : List JoinedLine → Option OpenLine → Result (List JoinedLine) LineFault
ended_if_open done None = Ok done
ended_if_open done (Some line) = lines_with done line

-- the lines at the end of the text
abbrev pub lines_at_end : Reading → Result (List JoinedLine) LineFault
lines_at_end reading = ended_if_open reading.done reading.unfinished
