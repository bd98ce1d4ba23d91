-- A line that is read in pieces.
use Rattle.std.specs.Prelude.{ℕ, ◌≡◌, List, [], ◌∷◌, ◌++◌, take, Bool, true, false, not, ◌&&◌, ◌==◌}
use Rattle.line_feed.specs.declared.fed_line.TheConstants.{MAX_FED_LINE}

-- the bytes of a line that are kept: its first 1,048,640 bytes
unfoldable pub kept_of : List ℕ → List ℕ
kept_of line = take MAX_FED_LINE line

-- these bytes are what is kept of that line
abbrev pub IsKept : List ℕ → List ℕ → Type 0
IsKept kept line = kept ≡ kept_of line

-- no byte of the line is LF
abbrev pub is_one_line : List ℕ → Bool
is_one_line [] = true
is_one_line (byte ∷ bytes) = not (byte == 10) && is_one_line bytes

-- private: a piece was taken up to LF, or up to the last byte
abbrev pub EndsPiece : List ℕ → List ℕ → Bool → List ℕ → Type 0
EndsPiece old piece true new = old ≡ piece ++ 10 ∷ new
EndsPiece old piece false new = (old ≡ piece) × (new ≡ [])

-- private: a piece was taken, and appended to the line
pub record TakesPiece (old : List ℕ) (before : List ℕ) (has_ended : Bool) (new : List ℕ) (after : List ℕ) : Type 0 where
  pub piece : List ℕ
  pub one : is_one_line piece ≡ true
  pub kept : (line : List ℕ) → IsKept before line → IsKept after (line ++ piece)
  pub rest : EndsPiece old piece has_ended new
