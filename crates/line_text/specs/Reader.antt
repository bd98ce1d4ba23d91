-- Private: how a reader stores what it has read.
use Rattle.std.specs.Prelude.{ℕ, ◌≡◌, Bool, true, false, List, drop, Option, Some, None, Result, Ok, Err, ⊤}
use Rattle.line_text.specs.declared.fault.LineFault.{LineFault}
use Rattle.line_text.specs.declared.text_error.TextError.{TextError}
use Rattle.line_text.specs.declared.text_error.TextError.TheVariants.{NoMemory, Fault}
use Rattle.line_text.specs.declared.reader.Reader.{Reader}
use Rattle.line_text.specs.Lines.{JoinedLine}
use Rattle.line_text.specs.Spans.{seen_lines}
use Rattle.line_text.specs.Words.{texts}
use Rattle.line_text.specs.Reading.{OpenLine, Reading, reading_after, lines_with}

-- the line whose words begin at the reader's start index
abbrev pub open_line : Reader → OpenLine
open_line r = record { number = r.number; words = drop r.start (texts r.words.items); count = r.count }

-- that line, if it is open
abbrev pub line_if : Bool → OpenLine → Option OpenLine
line_if true line = Some line
line_if false line = None

-- the lines that have ended
abbrev pub done_of : Reader → List JoinedLine
done_of r = seen_lines (texts r.words.items) r.spans.items

-- everything that a reader has read
abbrev pub reading_of : Reader → Reading
reading_of r = record { done = done_of r; unfinished = line_if r.is_open (open_line r) }

-- reading one more physical line, with this number, turns the old state into the new one
abbrev pub IsReadOn : Reading → ℕ → List ℕ → Result (Unit {0}) (TextError LineFault) → Reading → Type 0
IsReadOn old n physical (Ok _) new = reading_after old n physical ≡ Ok new
IsReadOn old n physical (Err (Fault fault)) new = reading_after old n physical ≡ Err fault
IsReadOn old n physical (Err NoMemory) new = ⊤

-- ending the open line turns the old lines into the new ones
abbrev pub IsEnded : List JoinedLine → OpenLine → Result (Unit {0}) (TextError LineFault) → List JoinedLine → Type 0
IsEnded done line (Ok _) new = lines_with done line ≡ Ok new
IsEnded done line (Err (Fault fault)) new = lines_with done line ≡ Err fault
IsEnded done line (Err NoMemory) new = ⊤
