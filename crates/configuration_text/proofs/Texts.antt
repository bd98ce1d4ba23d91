-- Texts of lines.
use Rattle.configuration_text.proofs.Prelude.{◌≡◌, ℕ, ◌+◌, ◌≤◌, List, [], ◌∷◌, ◌++◌, drop, length, map, Some, sym, ap, refl, ◌∙◌, append_assoc, append-nil, slice_get, enumerate_from, flat_map, flat_map-append, map-append, line_of, text_of, line_words, lines_text, ConfigurationLine}
use Rattle.configuration_text.proofs.Rest.{written_more, written_end}

pub lines_append : (lines more : List ConfigurationLine) → lines_text (lines ++ more) ≡ lines_text lines ++ lines_text more
lines_append lines more = ap text_of (map-append line_words lines more) ∙ flat_map-append line_of (map line_words lines) (map line_words more)

-- one line
pub one_line : (text old : List ℕ) (line : ConfigurationLine) → text ≡ old ++ line_of (line_words line) → text ≡ old ++ lines_text (line ∷ [])
one_line text old line e = e ∙ ap (λ (t : List ℕ). old ++ t) (sym (append-nil (line_of (line_words line))))

-- the lines of each element with its index, one element on, and at the end
module _ {X : Type 0} (f : ℕ × X → List ConfigurationLine) (xs : List X) (i : ℕ) (text old all : List ℕ) where
  pub each_more : (x : X) (new : List ℕ) → slice_get xs i ≡ Some x → text ++ lines_text (flat_map f (enumerate_from i (drop i xs))) ≡ old ++ all → new ≡ text ++ lines_text (f (i, x)) → new ++ lines_text (flat_map f (enumerate_from (i + 1) (drop (i + 1) xs))) ≡ old ++ all
  each_more x new get h e = written_more (λ n ys. lines_text (flat_map f (enumerate_from n ys))) xs i x (lines_text (f (i, x))) text old new all get (lines_append (f (i, x)) (flat_map f (enumerate_from (i + 1) (drop (i + 1) xs)))) h e

  pub each_end : length xs ≤ i → text ++ lines_text (flat_map f (enumerate_from i (drop i xs))) ≡ old ++ all → text ≡ old ++ all
  each_end long h = written_end (λ n ys. lines_text (flat_map f (enumerate_from n ys))) xs i text old all long refl h

-- the lines of each element
module _ {X : Type 0} (f : X → List ConfigurationLine) (xs : List X) (i : ℕ) (text old all : List ℕ) where
  pub all_more : (x : X) (new : List ℕ) → slice_get xs i ≡ Some x → text ++ lines_text (flat_map f (drop i xs)) ≡ old ++ all → new ≡ text ++ lines_text (f x) → new ++ lines_text (flat_map f (drop (i + 1) xs)) ≡ old ++ all
  all_more x new get h e = written_more (λ n ys. lines_text (flat_map f ys)) xs i x (lines_text (f x)) text old new all get (lines_append (f x) (flat_map f (drop (i + 1) xs))) h e

  pub all_end : length xs ≤ i → text ++ lines_text (flat_map f (drop i xs)) ≡ old ++ all → text ≡ old ++ all
  all_end long h = written_end (λ n ys. lines_text (flat_map f ys)) xs i text old all long refl h

-- the lines of a BLE
pub ble_written : (used values : ConfigurationLine) (inputs latch : List ConfigurationLine) (old a b c new : List ℕ) → a ≡ old ++ line_of (line_words used) → b ≡ a ++ lines_text inputs → c ≡ b ++ line_of (line_words values) → new ≡ c ++ lines_text latch →
    new ≡ old ++ lines_text (used ∷ inputs ++ values ∷ latch)
ble_written used values inputs latch old a b c new p q r s =
    let u = line_of (line_words used) in
    let i = lines_text inputs in
    let v = line_of (line_words values) in
    let l = lines_text latch in
    let joined : lines_text (used ∷ inputs ++ values ∷ latch) ≡ u ++ (i ++ (v ++ l)) = ap (λ (t : List ℕ). u ++ t) (lines_append inputs (values ∷ latch)) in
    let regroup : (((old ++ u) ++ i) ++ v) ++ l ≡ old ++ (u ++ (i ++ (v ++ l))) = simp append_assoc in
    s ∙ ap (λ (t : List ℕ). t ++ l) (r ∙ ap (λ (t : List ℕ). t ++ v) (q ∙ ap (λ (t : List ℕ). t ++ i) p))
    ∙ regroup ∙ ap (λ (t : List ℕ). old ++ t) (sym joined)

-- the whole text
pub whole_written : (device : ConfigurationLine) (blocks globals nets : List ConfigurationLine) (old a b c new : List ℕ) → a ≡ old ++ line_of (line_words device) → b ≡ a ++ lines_text blocks → c ≡ b ++ lines_text globals → new ≡ c ++ lines_text nets →
    new ≡ old ++ lines_text (device ∷ blocks ++ (globals ++ nets))
whole_written device blocks globals nets old a b c new p q r s =
    let d = line_of (line_words device) in
    let bs = lines_text blocks in
    let g = lines_text globals in
    let n = lines_text nets in
    let joined : lines_text (device ∷ blocks ++ (globals ++ nets)) ≡ d ++ (bs ++ (g ++ n)) =
    ap (λ (t : List ℕ). d ++ t) (lines_append blocks (globals ++ nets) ∙ ap (λ (t : List ℕ). bs ++ t) (lines_append globals nets)) in
    let regroup : (((old ++ d) ++ bs) ++ g) ++ n ≡ old ++ (d ++ (bs ++ (g ++ n))) = simp append_assoc in
    s ∙ ap (λ (t : List ℕ). t ++ n) (r ∙ ap (λ (t : List ℕ). t ++ g) (q ∙ ap (λ (t : List ℕ). t ++ bs) p))
    ∙ regroup ∙ ap (λ (t : List ℕ). old ++ t) (sym joined)
