-- The names at the input's end, from the last to the first.
use Rattle.live_lines.proofs.Prelude.{◌≡◌, ◌≢◌, ℕ, List, [], ◌∷◌, ◌++◌, length, true, false, Option, Some, None, refl, arith, slice_get, bytes_eq, bytes_eq-Decides, number_of, TextSoFar, text_in}

abbrev Text : Type 0
Text = Option TextSoFar

same_name : (name : List ℕ) → bytes_eq name name ≡ true
same_name name = (bytes_eq-Decides name name).1 refl

pub no_text : (names : List (List ℕ)) (name : List ℕ) → text_in names [] name ≡ None
no_text [] name = refl
no_text (n ∷ names) name = refl

-- a name that isn't the last one is in the text that it was in
pub others_stay : (names : List (List ℕ)) (texts : List Text) (t : Text) (n name : List ℕ) → slice_get names (length texts) ≡ Some n → bytes_eq name n ≡ false → text_in names (texts ++ t ∷ []) name ≡ text_in names texts name
others_stay [] texts t n name at apart = refl
others_stay (m ∷ names) [] t n name at apart = grind (arith, no_text)
others_stay (m ∷ names) (u ∷ texts) t n name at apart = grind (arith, others_stay names texts t n name)

-- the last name, if it is not there before
pub last_is : (names : List (List ℕ)) (texts : List Text) (t : Text) (n : List ℕ) → slice_get names (length texts) ≡ Some n → number_of names n ≡ length texts → (text_in names (texts ++ t ∷ []) n ≡ t) × (text_in names texts n ≡ None)
last_is [] texts t n at number = absurd (cc)
last_is (m ∷ names) [] t n at number = grind arith
last_is (m ∷ names) (u ∷ texts) t n at number = grind (arith, last_is names texts t n)

-- and if it is
pub last_stays : (names : List (List ℕ)) (texts : List Text) (t : Text) (n : List ℕ) → slice_get names (length texts) ≡ Some n → number_of names n ≢ length texts → text_in names (texts ++ t ∷ []) n ≡ text_in names texts n
last_stays [] texts t n at number = refl
last_stays (m ∷ names) [] t n at number = grind (arith, same_name)
last_stays (m ∷ names) (u ∷ texts) t n at number = grind (arith, last_stays names texts t n)
