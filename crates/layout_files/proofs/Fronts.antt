-- The front of a text: a number or a word that is printed is read back.
use Rattle.layout_files.proofs.Prelude.{◌≡◌, ℕ, ◌^◌, ◌<◌, List, ◌++◌, drop, decimal, Option, Some, arith, before_first, position_or_len, decimal_of, before, behind, decimal_is, digits_all, digits_told, Stops, is_no_digit, IsPlain, is_word_end}

-- a number is read
pub number_front : (text digits back : List ℕ) (found : Option ℕ) → digits ≡ before_first is_no_digit text → back ≡ drop (position_or_len is_no_digit text) text → found ≡ decimal_of 32 digits
    → (n : ℕ) (after : List ℕ) → n < 2 ^ 32 → Stops is_no_digit after → Some text ≡ Some (decimal n ++ after) → (found ≡ Some n) × (back ≡ after)
number_front text digits back found e f g n after small stops h = grind (arith, before, behind, digits_all (decimal n) (digits_told n (omega arith)).0, decimal_is n small)

-- a word is read
pub word_front : (text front back : List ℕ) → front ≡ before_first is_word_end text → back ≡ drop (position_or_len is_word_end text) text
    → (w after : List ℕ) → IsPlain w → Stops is_word_end after → Some text ≡ Some (w ++ after) → (front ≡ w) × (back ≡ after)
word_front text front back e f w after plain stops h = grind (arith, before, behind)
