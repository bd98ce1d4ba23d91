-- The lines of a text have increasing numbers.
use Rattle.line_text.proofs.Prelude.{◌≡◌, ℕ, ◌+◌, ◌≤◌, Bool, List, [], ◌∷◌, Result, Ok, IfOk, map, filter, arith, enumerate_from, JoinedLine, joined_line, lines_of, runs, LineFault, RisesFrom, Gives, TextError}

pub rises_lower : (low high : ℕ) (lines : List JoinedLine) → low ≤ high → RisesFrom high lines → RisesFrom low lines
rises_lower low high [] below h = tt
rises_lower low high (line ∷ lines) below h = (omega (arith, h.0), h.1)

rises_filtered : (p : JoinedLine → Bool) (low : ℕ) (lines : List JoinedLine) → RisesFrom low lines → RisesFrom low (filter p lines)
rises_filtered p low [] h = tt
rises_filtered p low (line ∷ lines) h = grind (arith, rises_lower, rises_filtered p (line.number + 1) lines h.1)

-- the joined lines of physical lines that are numbered from this number on have increasing numbers
rises_joined : (number : ℕ) (physical : List (List ℕ)) → RisesFrom number (map joined_line (runs (enumerate_from number physical)))
rises_joined number [] = tt
rises_joined number (line ∷ physical) = grind (arith, rises_lower, rises_joined (number + 1) physical)

rises_in_text : (text : List ℕ) (lines : List JoinedLine) → lines_of text ≡ Ok lines → RisesFrom 1 lines
unfolding lines_of
rises_in_text text lines h = grind (arith, rises_filtered, rises_joined)

-- the lines that a reader of the text returns have increasing numbers
pub rises_given : (text : List ℕ) (read : Result (List JoinedLine) (TextError LineFault)) → Gives (lines_of text) read → IfOk read (RisesFrom 1)
rises_given text read gives = grind (arith, rises_in_text)
