-- Pin files: a name and a place on each line.
use Rattle.std.specs.Prelude.{ℕ, List, [], ◌∷◌, ◌++◌, Option, Some, None, Result, Ok, Err}
use Rattle.grid.specs.declared.place.Place.{Place}
use Rattle.grid.specs.Places.{place_at}
use Rattle.line_text.specs.Decimal.{decimal_of}
use Rattle.line_text.specs.Lines.{JoinedLine, lines_of}
use Rattle.line_text.specs.declared.fault.LineFault.{LineFault}
use Rattle.pin_file.specs.declared.fault.PinFileFault.{PinFileFault}
use Rattle.pin_file.specs.declared.fault.PinFileFault.TheVariants.{Text, NotAPin}

-- a pin: the number of its line, its name, and the place that it is to have
pub record Pin : Type 0 where
  pub line : ℕ
  pub name : List ℕ
  pub place : Place

-- the pin with that column, row and pad, if they are numbers
abbrev pub pin_at : ℕ → List ℕ → Option ℕ → Option ℕ → Option ℕ → Option Pin
pin_at line name (Some column) (Some row) (Some pad) = Some (record { line = line; name = name; place = place_at column row pad })
pin_at line name (Some column) (Some row) None = None
pin_at line name (Some column) None pad = None
pin_at line name None row pad = None

-- the pin of these words: a name and three numbers of 32 bits
abbrev pub pin_in : ℕ → List (List ℕ) → Option Pin
pin_in line (name ∷ column ∷ row ∷ pad ∷ []) = pin_at line name (decimal_of 32 column) (decimal_of 32 row) (decimal_of 32 pad)
pin_in line words = None

abbrev pub pin_of : JoinedLine → Option Pin
pin_of line = pin_in line.number line.words

-- the pins so far and those of the lines that follow, or the first line that isn't a pin
abbrev pub then_pins : (List Pin → Result (List Pin) PinFileFault) → List Pin → ℕ → Option Pin → Result (List Pin) PinFileFault
then_pins next before number (Some pin) = next (before ++ pin ∷ [])
then_pins next before number None = Err (NotAPin number)

unfoldable pub pins_after : List Pin → List JoinedLine → Result (List Pin) PinFileFault
pins_after before [] = Ok before
pins_after before (line ∷ lines) = then_pins (λ more. pins_after more lines) before line.number (pin_of line)

-- the pins of a file, or its fault: that it can't be split into lines, or its first line that isn't
-- a pin
abbrev pub pins_of_lines : Result (List JoinedLine) LineFault → Result (List Pin) PinFileFault
pins_of_lines (Ok lines) = pins_after [] lines
pins_of_lines (Err fault) = Err (Text fault)

abbrev pub pins_in : List ℕ → Result (List Pin) PinFileFault
pins_in text = pins_of_lines (lines_of text)
