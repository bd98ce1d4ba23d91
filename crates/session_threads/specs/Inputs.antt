-- Private: an input that is read byte by byte and line by line.
use Rattle.std.specs.Prelude.{ℕ, ◌≡◌, List, [], ◌∷◌, ◌++◌, Bool, true, not, ◌&&◌, ◌==◌, Option, Some, None, Result, Ok, Err}
use Rattle.std.specs.Io.KnownBytes.{Consumes, IsAtEnd, Keeps}
use Rattle.session_threads.specs.Prelude.{Failed}
use Rattle.session_threads.specs.declared.lines.LineEnd.{LineEnd}
use Rattle.session_threads.specs.declared.lines.LineEnd.TheVariants.{LineFeed, Input}
use Rattle.session_threads.specs.Lines.{IsLine, LineSoFar}

-- the next of the bytes that are known, if there is one
abbrev pub GivesByte : Option (List ℕ) → Option (List ℕ) → Result (Option ℕ) Failed → Type 0
GivesByte old new (Ok (Some byte)) = Consumes old new (byte ∷ [])
GivesByte old new (Ok None) = Consumes old new [] × IsAtEnd new
GivesByte old new (Err failed) = Keeps old new

-- no byte is a line's end
abbrev pub is_one_line : List ℕ → Bool
is_one_line [] = true
is_one_line (byte ∷ bytes) = not (byte == 10) && is_one_line bytes

-- the bytes of a line were read, up to its end if the input has that
abbrev pub EndsLine : Option (List ℕ) → Option (List ℕ) → List ℕ → Result LineEnd Failed → Type 0
EndsLine old new bytes (Ok LineFeed) = Consumes old new (bytes ++ 10 ∷ [])
EndsLine old new bytes (Ok Input) = Consumes old new bytes × IsAtEnd new
EndsLine old new bytes (Err failed) = Consumes old new bytes

-- a line was read, of which this is kept
abbrev pub ReadsLine : Option (List ℕ) → Option (List ℕ) → LineSoFar → Result LineEnd Failed → Type 0
ReadsLine old new kept end = (line : List ℕ) × (is_one_line line ≡ true) × IsLine kept line × EndsLine old new line end
