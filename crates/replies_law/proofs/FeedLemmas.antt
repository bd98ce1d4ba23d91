-- Bytes without a line feed, and lines.
use Rattle.replies_law.proofs.Prelude.{◌≡◌, ℕ, zero, suc, ◌+◌, ◌/◌, ◌%◌, Bool, true, false, not, cond, eqb, List, [], ◌∷◌, ◌++◌, length, decimal, Some, refl, ap, ◌∙◌, arith, length-append, append_assoc, digits, digits_onto, digit_glyph, list_all, position_or_len, and_from, and_parts, eqb-true, false≢true, list_all-append, is_line_feed, line_length, NoFeed, is_other}

pub no_feed-append : (x y : List ℕ) → NoFeed x → NoFeed y → NoFeed (x ++ y)
no_feed-append x y first second = list_all-append is_other x y ∙ and_from _ _ first second

-- the digits of a number
glyph_other : (d : ℕ) → is_other (digit_glyph false d) ≡ true
glyph_other d = grind arith

digits_other : (k n : ℕ) (acc : List ℕ) → NoFeed acc → NoFeed (digits_onto k 10 false n acc)
digits_other zero n acc all = all
digits_other (suc k) n acc all =
    let more : NoFeed (digit_glyph false (n % 10) ∷ acc) = and_from _ _ (glyph_other (n % 10)) all in
    by_test (eqb (n / 10) 0) more (digits_other k (n / 10) (digit_glyph false (n % 10) ∷ acc) more)
  where
    by_test : (b : Bool) → NoFeed (digit_glyph false (n % 10) ∷ acc) → NoFeed (digits_onto k 10 false (n / 10) (digit_glyph false (n % 10) ∷ acc)) →
        NoFeed (cond b (digit_glyph false (n % 10) ∷ acc) (digits_onto k 10 false (n / 10) (digit_glyph false (n % 10) ∷ acc)))
    by_test true one rest = one
    by_test false one rest = rest

pub decimal_no_feed : (n : ℕ) → NoFeed (decimal n)
unfolding digits
decimal_no_feed n = digits_other 64 n [] refl

-- a line feed ends the bytes, and there is no other in them
abbrev pub is_none : List ℕ → Bool
is_none [] = true
is_none (c ∷ cs) = false

abbrev pub is_line : List ℕ → Bool
is_line [] = false
is_line (b ∷ bytes) = cond (is_line_feed b) (is_none bytes) (is_line bytes)

abbrev pub IsLine : List ℕ → Type 0
IsLine text = is_line text ≡ true

pub line_behind : (front text : List ℕ) → NoFeed front → IsLine text → IsLine (front ++ text)
line_behind [] text all is = is
line_behind (b ∷ front) text all is =
    let parts = and_parts (is_other b) (list_all is_other front) all in
    by_test (is_line_feed b) parts.0 (line_behind front text parts.1 is)
  where
    by_test : (t : Bool) → not t ≡ true → IsLine (front ++ text) → cond t (is_none (front ++ text)) (is_line (front ++ text)) ≡ true
    by_test true never rest = absurd (false≢true never)
    by_test false e rest = rest

-- the text before its line feed
pub record Parted (text : List ℕ) : Type 0 where
  pub line : List ℕ
  pub is : text ≡ line ++ 10 ∷ []
  pub other : NoFeed line

pub line_parts : (text : List ℕ) → IsLine text → Parted text
line_parts [] is = absurd (false≢true is)
line_parts (b ∷ bytes) is = by_test (is_line_feed b) refl is (λ more. line_parts bytes more)
  where
    ended : (bytes : List ℕ) → is_none bytes ≡ true → is_line_feed b ≡ true → Parted (b ∷ bytes)
    ended [] none e = record { line = []; is = ap (λ x. x ∷ []) (eqb-true b 10 e); other = refl }
    ended (c ∷ cs) none e = absurd (false≢true none)

    by_test : (t : Bool) → is_line_feed b ≡ t → cond t (is_none bytes) (is_line bytes) ≡ true → (IsLine bytes → Parted bytes) → Parted (b ∷ bytes)
    by_test true e none more = ended bytes none e
    by_test false e rest more =
        let parts = more rest in
        record { line = b ∷ parts.line; is = ap (λ x. b ∷ x) parts.is; other = and_from _ _ (ap not e) parts.other }

-- its line feed is the first one
feed_place : (line rest : List ℕ) → NoFeed line → position_or_len is_line_feed (line ++ 10 ∷ rest) ≡ length line
feed_place [] rest all = refl
feed_place (b ∷ line) rest all =
    let parts = and_parts (is_other b) (list_all is_other line) all in
    by_test (is_line_feed b) parts.0 (feed_place line rest parts.1)
  where
    by_test : (t : Bool) → not t ≡ true → position_or_len is_line_feed (line ++ 10 ∷ rest) ≡ length line → cond (not t) (1 + position_or_len is_line_feed (line ++ 10 ∷ rest)) 0 ≡ length (b ∷ line)
    by_test true never e = absurd (false≢true never)
    by_test false e more = omega (arith, more)

pub ended_length : (line rest : List ℕ) → NoFeed line → line_length (line ++ 10 ∷ rest) ≡ Some (length line + 1)
ended_length line rest all = grind (arith, feed_place, length-append)

-- the first line of the bytes is as long as the line with which they begin
pub line_is_first : (text rest : List ℕ) → IsLine text → line_length (text ++ rest) ≡ Some (length text)
line_is_first text rest is = grind (arith, length-append, append_assoc, ended_length, line_parts text is)
