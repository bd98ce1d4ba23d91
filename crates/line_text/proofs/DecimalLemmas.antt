-- Numbers read digit by digit.
use Rattle.line_text.proofs.Prelude.{◌≡◌, ℕ, suc, ◌+◌, ◌-◌, ◌*◌, ◌^◌, ◌<◌, ◌≤◌, Bool, true, false, ◌&&◌, cond, List, [], ◌∷◌, length, drop, get_or, Option, Some, None, fold, nat_lt, nat_le, sym, ap, ◌∙◌, arith, list_all, drop_more, drop_all, mul-le-mul_right, pow-suc, pow-le-pow_right, mul_assoc, mul_comm, is_digit, with_digit, value_of, decimal_of, whole_of}

-- the number that these digits spell after those of n, if it is below the limit
abbrev pub number_from : ℕ → ℕ → List ℕ → Option ℕ
number_from limit n bytes = cond (list_all is_digit bytes && nat_lt (fold with_digit n bytes) limit) (Some (fold with_digit n bytes)) None

-- the number after one more byte
abbrev pub one_more : ℕ → ℕ → ℕ → Option ℕ
one_more limit n byte = cond (is_digit byte && nat_lt (with_digit n byte) limit) (Some (with_digit n byte)) None

grows : (n byte : ℕ) → n ≤ with_digit n byte
grows n byte = omega arith

fold-grows : (bytes : List ℕ) (n : ℕ) → n ≤ fold with_digit n bytes
fold-grows [] n = omega arith
fold-grows (byte ∷ rest) n = omega (arith, grows n byte, fold-grows rest (with_digit n byte))

-- a number that is too large stays too large
too_large : (limit n : ℕ) (bytes : List ℕ) → nat_lt n limit ≡ false → nat_lt (fold with_digit n bytes) limit ≡ false
too_large limit n bytes e = grind (arith, fold-grows)

takes : (limit n byte : ℕ) (rest : List ℕ) → (d t : Bool) → is_digit byte ≡ d → nat_lt (with_digit n byte) limit ≡ t → (m : ℕ) → cond (d && t) (Some (with_digit n byte)) None ≡ Some m → number_from limit n (byte ∷ rest) ≡ number_from limit m rest
takes limit n byte rest d t de te m e = grind arith

refuses : (limit n byte : ℕ) (rest : List ℕ) → (d t : Bool) → is_digit byte ≡ d → nat_lt (with_digit n byte) limit ≡ t → cond (d && t) (Some (with_digit n byte)) None ≡ None → number_from limit n (byte ∷ rest) ≡ None
refuses limit n byte rest d t de te e = grind (arith, too_large)

pub number_from-none : (limit n i byte : ℕ) (bytes : List ℕ) → i < length bytes → byte ≡ get_or bytes i 0 → one_more limit n byte ≡ None → number_from limit n (drop i bytes) ≡ None
number_from-none limit n i byte bytes h b e = grind (arith, drop_more, refuses)

pub number_from-end : (limit n i : ℕ) (bytes : List ℕ) → n < limit → length bytes ≤ i → number_from limit n (drop i bytes) ≡ Some n
number_from-end limit n i bytes h l = grind (arith, drop_all)

and_true : (a b : Bool) → a && b ≡ true → (a ≡ true) × (b ≡ true)
and_true a b e = grind arith

at_most_nine : (byte : ℕ) → is_digit byte ≡ true → byte ≤ 57
at_most_nine byte e = grind arith

-- digits spell a number below ten to the number of digits
fold-below : (bytes : List ℕ) (n : ℕ) → list_all is_digit bytes ≡ true → fold with_digit n bytes < (n + 1) * 10 ^ length bytes
fold-below [] n e = omega arith
fold-below (byte ∷ rest) n e =
    let parts = and_true (is_digit byte) (list_all is_digit rest) e in
    let scale = 10 ^ length rest in
    let byte_below : byte ≤ 57 = at_most_nine byte parts.0 in
    let next : with_digit n byte + 1 ≤ (n + 1) * 10 = omega (arith, byte_below) in
    let scaled : (with_digit n byte + 1) * scale ≤ (n + 1) * 10 * scale = mul-le-mul_right scale next in
    let further : fold with_digit (with_digit n byte) rest < (with_digit n byte + 1) * scale = fold-below rest (with_digit n byte) parts.1 in
    let regrouped : (n + 1) * 10 * scale ≡ (n + 1) * 10 ^ suc (length rest) = mul_assoc (n + 1) 10 scale ∙ ap (λ k. (n + 1) * k) (mul_comm 10 scale ∙ sym (pow-suc 10 (length rest))) in
    omega arith

pub value_of-below : (bytes : List ℕ) → list_all is_digit bytes ≡ true → value_of bytes < 10 ^ length bytes
value_of-below bytes e = omega (arith, fold-below bytes 0 e)

-- the number of these digits is below the limit, if ten to the number of digits is at most the
-- limit
value_of-fits : (limit : ℕ) (bytes : List ℕ) → 10 ^ length bytes ≤ limit → list_all is_digit bytes ≡ true → nat_lt (value_of bytes) limit ≡ true
value_of-fits limit bytes h e = grind (arith, value_of-below)

pub ten_to-le : (k m : ℕ) → k ≤ m → 10 ^ k ≤ 10 ^ m
ten_to-le k m h = pow-le-pow_right (omega arith) h

-- if there is no number, some byte is not a digit
pub no_digits : (limit : ℕ) (bytes : List ℕ) → 10 ^ length bytes ≤ limit → None ≡ number_from limit 0 bytes → list_all is_digit bytes ≡ false
no_digits limit bytes h e = grind (arith, value_of-fits)

-- up to nine digits are a number of 32 bits
pub decimal_of-whole : (bytes : List ℕ) → length bytes ≤ 9 → decimal_of 32 bytes ≡ whole_of bytes
decimal_of-whole bytes h = grind (arith, value_of-fits, ten_to-le)

-- the factor that turns a fraction into millionths, by its number of digits
abbrev scales : List ℕ
scales = 1000000 ∷ 100000 ∷ 10000 ∷ 1000 ∷ 100 ∷ 10 ∷ 1 ∷ []

pub scaled : (k n : ℕ) → k < 7 → n < 10 ^ k → (get_or scales k 0 ≡ 10 ^ (6 - k)) × (n * get_or scales k 0 < 1000000)
scaled k n h l = grind arith

pub number_from-below : (limit n : ℕ) (bytes : List ℕ) → number_from limit 0 bytes ≡ Some n → n < 10 ^ length bytes
number_from-below limit n bytes e = grind (arith, value_of-below)

-- bytes that are not all digits have no fraction
pub no_fraction : (bytes : List ℕ) (x : ℕ) → list_all is_digit bytes ≡ false → None ≡ cond (list_all is_digit bytes && nat_le (length bytes) 6) (Some x) None
no_fraction bytes x e = ap (λ b. cond (b && nat_le (length bytes) 6) (Some x) None) (sym e)
