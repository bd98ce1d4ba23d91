-- The rows of a table, and its values.
use Rattle.configuration_text.proofs.Prelude.{◌≡◌, ℕ, ◌+◌, ◌/◌, ◌==◌, ◌≤◌, Bool, true, false, ◌||◌, not, List, [], ◌∷◌, cond, drop, length, map, min, Some, sym, ap, refl, ◌∙◌, arith, slice_get, list_any, prefix_len, take_while, length-drop, take_while-cons, JoinedLine, gives_one, kind_of, is_row_kind, all_agree, applies, bit_of, value_in, value_of, row_words}
use Rattle.configuration_text.proofs.NumberBits.{bit_more}
use Rattle.configuration_text.proofs.Rest.{rest_more}

abbrev is_row : JoinedLine → Bool
is_row line = is_row_kind (kind_of line)

-- a row, and a line that is none
rows_step : (line : JoinedLine) (lines : List JoinedLine) (b : Bool) → is_row line ≡ b → row_words (line ∷ lines) ≡ cond b (line.words ∷ row_words lines) []
rows_step line lines b e =
    ap (map (λ (l : JoinedLine). l.words)) (take_while-cons is_row line lines)
    ∙ ap (λ (r : Bool). map (λ (l : JoinedLine). l.words) (cond r (line ∷ take_while is_row lines) [])) e ∙ by b
  where
    by : (b : Bool) → map (λ (l : JoinedLine). l.words) (cond b (line ∷ take_while is_row lines) []) ≡ cond b (line.words ∷ row_words lines) []
    by true = refl
    by false = refl

pub row_more : (lines : List JoinedLine) (i : ℕ) (line : JoinedLine) → slice_get lines i ≡ Some line → is_row_kind (kind_of line) ≡ true → row_words (drop i lines) ≡ line.words ∷ row_words (drop (i + 1) lines)
row_more lines i line get passes = rest_more row_words lines i line get ∙ rows_step line (drop (i + 1) lines) true passes

pub row_stop : (lines : List JoinedLine) (i : ℕ) (line : JoinedLine) → slice_get lines i ≡ Some line → is_row_kind (kind_of line) ≡ false → row_words (drop i lines) ≡ []
row_stop lines i line get fails = rest_more row_words lines i line get ∙ rows_step line (drop (i + 1) lines) false fails

module _ (values : List Bool) (lines : List JoinedLine) (i : ℕ) (line : JoinedLine) (get : slice_get lines i ≡ Some line) where
  pub any_here : is_row_kind (kind_of line) ≡ true → applies values line.words ≡ true → (r : Bool) → list_any (applies values) (row_words (drop i lines)) ≡ r → true ≡ r
  any_here passes here r h =
      sym (ap (λ (b : Bool). b || list_any (applies values) (row_words (drop (i + 1) lines))) here)
      ∙ sym (ap (list_any (applies values)) (row_more lines i line get passes)) ∙ h

  pub any_later : is_row_kind (kind_of line) ≡ true → applies values line.words ≡ false → (r : Bool) → list_any (applies values) (row_words (drop i lines)) ≡ r → list_any (applies values) (row_words (drop (i + 1) lines)) ≡ r
  any_later passes here r h =
      sym (ap (λ (b : Bool). b || list_any (applies values) (row_words (drop (i + 1) lines))) here)
      ∙ sym (ap (list_any (applies values)) (row_more lines i line get passes)) ∙ h

  pub any_ended : is_row_kind (kind_of line) ≡ false → (r : Bool) → list_any (applies values) (row_words (drop i lines)) ≡ r → false ≡ r
  any_ended fails r h = sym (ap (list_any (applies values)) (row_stop lines i line get fails)) ∙ h

  pub value_by_first : is_row_kind (kind_of line) ≡ true → value_of (row_words (drop i lines)) values ≡ cond (list_any (applies values) (row_words (drop i lines))) (gives_one line.words) (not (gives_one line.words))
  value_by_first passes =
      ap (λ rows. value_of rows values) (row_more lines i line get passes)
      ∙ ap (λ rows. cond (list_any (applies values) rows) (gives_one line.words) (not (gives_one line.words))) (sym (row_more lines i line get passes))

  pub no_value : is_row_kind (kind_of line) ≡ false → false ≡ value_of (row_words (drop i lines)) values
  no_value fails = sym (ap (λ rows. value_of rows values) (row_stop lines i line get fails))

-- a net's value, one bit on
pub value_more : (nets : List ℕ) (i x rest net : ℕ) (r : Bool) → slice_get nets i ≡ Some x → (x == net) ≡ false → value_in (drop i nets) rest net ≡ r → value_in (drop (i + 1) nets) (rest / 2) net ≡ r
value_more nets i x rest net r get other h =
    let p : ℕ → Bool = λ n. not (n == net) in
    sym (bit_more rest (prefix_len p (drop (i + 1) nets)))
    ∙ sym (ap (λ (b : Bool). bit_of rest (cond (not b) (1 + prefix_len p (drop (i + 1) nets)) 0)) other)
    ∙ sym (rest_more (λ ns. value_in ns rest net) nets i x get) ∙ h

-- no character is left, or no value
pub agree_end : (v : ℕ → Bool) (pattern inputs : List ℕ) (i : ℕ) → min (length pattern) (length inputs) ≤ i → all_agree (drop i pattern) (map v (drop i inputs)) ≡ true
agree_end v pattern inputs i h = by (drop i pattern) (drop i inputs) refl refl
  where
    by : (p n : List ℕ) → drop i pattern ≡ p → drop i inputs ≡ n → all_agree p (map v n) ≡ true
    by [] n e f = refl
    by (a ∷ p) [] e f = refl
    by (a ∷ p) (b ∷ n) e f = absurd (omega (arith, h, ap length e, ap length f, length-drop i pattern, length-drop i inputs))
