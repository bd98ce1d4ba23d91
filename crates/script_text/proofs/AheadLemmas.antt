-- A text up to the line that ends it, read line by line or at once.
use Rattle.script_text.proofs.Prelude.{◌≡◌, ℕ, List, [], ◌∷◌, ◌++◌, false, eqb, Option, refl, append_assoc, arith, ⊤, option_map, physical_lines, without_cr, text_ahead, without_crs, bytes_ahead}

-- the line has no LF
abbrev pub HasNoLf : List ℕ → Type 0
HasNoLf [] = ⊤
HasNoLf (b ∷ line) = (eqb b 10 ≡ false) × HasNoLf line

abbrev pub HaveNoLf : List (List ℕ) → Type 0
HaveNoLf [] = ⊤
HaveNoLf (line ∷ lines) = HasNoLf line × HaveNoLf lines

plain_lines : (text : List ℕ) → HaveNoLf (physical_lines text)
plain_lines [] = tt
plain_lines (b ∷ text) = grind (arith, plain_lines text)

-- a line and LF are the first line of a text
line_first : (line more : List ℕ) → HasNoLf line → physical_lines (line ++ 10 ∷ more) ≡ line ∷ physical_lines more
line_first [] more plain = refl
line_first (b ∷ line) more plain = grind (arith, line_first line more plain.1)

line_ahead : (line : List ℕ) → HasNoLf line → (bytes : Option (List ℕ)) → option_map (λ text. without_cr line ++ 10 ∷ text) (option_map without_crs bytes) ≡ option_map without_crs (option_map (λ b. line ++ 10 ∷ b) bytes)
line_ahead line plain bytes = grind (arith, line_first, append_assoc)

ahead_lines : (lines : List (List ℕ)) → HaveNoLf lines → text_ahead lines ≡ option_map without_crs (bytes_ahead lines)
ahead_lines [] plain = refl
ahead_lines (line ∷ lines) plain = grind (arith, line_ahead, ahead_lines lines plain.1)

-- the text up to its end is that of the bytes up to its end
pub text_of_bytes : (text : List ℕ) → text_ahead (physical_lines text) ≡ option_map without_crs (bytes_ahead (physical_lines text))
text_of_bytes text = ahead_lines (physical_lines text) (plain_lines text)
