-- The first physical line of a text, split off together with its comment.
use Rattle.line_text.proofs.Prelude.{◌≡◌, ℕ, suc, ◌+◌, ◌<◌, Bool, true, false, not, ◌&&◌, cond, List, [], ◌∷◌, ◌++◌, length, take, drop, eqb, refl, sym, ap, ◌∙◌, arith, list_all, before_first, after_first, position_or_len, append-nil, nat_tests, is_lawful, is_not_ascii, physical_lines, without_comment, IsContent, first_line, is_plain, later_lines, reading_after}

abbrev is_end : ℕ → Bool
is_end byte = eqb byte 10

-- the first line, and what follows its LF
pub physical_lines-first : (text : List ℕ) → 0 < length text → physical_lines text ≡ first_line text ∷ physical_lines (later_lines text)
physical_lines-first [] h = absurd (omega arith)
physical_lines-first (x ∷ []) h = grind arith
physical_lines-first (x ∷ y ∷ rest) h = grind (arith, physical_lines-first (y ∷ rest) (omega arith))

take_next : {X : Type 0} (n : ℕ) (x : X) (xs : List X) → take (1 + n) (x ∷ xs) ≡ x ∷ take n xs
take_next n x xs = let e : 1 + n ≡ suc n = omega arith in ap (λ m. take m (x ∷ xs)) e

drop_next : {X : Type 0} (n : ℕ) (x : X) (xs : List X) → drop (1 + n) (x ∷ xs) ≡ drop n xs
drop_next n x xs = let e : 1 + n ≡ suc n = omega arith in ap (λ m. drop m (x ∷ xs)) e

drop_two : {X : Type 0} (n : ℕ) (x : X) (xs : List X) → drop (1 + n + 1) (x ∷ xs) ≡ drop (n + 1) xs
drop_two n x xs = let e : 1 + n + 1 ≡ suc (n + 1) = omega arith in ap (λ m. drop m (x ∷ xs)) e

-- an element that fails the test stays in front
before_first-cons : (p : ℕ → Bool) (x : ℕ) (xs : List ℕ) → p x ≡ false → before_first p (x ∷ xs) ≡ x ∷ before_first p xs
before_first-cons p x xs e = grind arith

after_first-cons : (p : ℕ → Bool) (x : ℕ) (xs : List ℕ) → p x ≡ false → after_first p (x ∷ xs) ≡ after_first p xs
after_first-cons p x xs e = grind arith

abbrev is_hash : ℕ → Bool
is_hash byte = eqb byte 35

-- the index of the first byte that is not plain
abbrev plain_end : List ℕ → ℕ
plain_end text = position_or_len (λ byte. not (is_plain byte)) text

-- all plain bytes are before the comment
content-front : (text : List ℕ) → without_comment (first_line text) ≡ take (plain_end text) text ++ without_comment (first_line (drop (plain_end text) text))
content-front [] = refl
content-front (x ∷ xs) = grind (arith, take_next, drop_next, content-front xs)

front-lawful : (text : List ℕ) → list_all is_lawful (take (plain_end text) text) ≡ true
front-lawful [] = refl
front-lawful (x ∷ xs) = grind (arith, take_next, front-lawful xs)

later-front : (text : List ℕ) → later_lines text ≡ later_lines (drop (plain_end text) text)
later-front [] = refl
later-front (x ∷ xs) = search (drop_next, later-front xs, arith)

ends_not_plain : (text rest : List ℕ) (y : ℕ) → drop (plain_end text) text ≡ y ∷ rest → is_plain y ≡ false
ends_not_plain [] rest y e = absurd (cc)
ends_not_plain (x ∷ xs) rest y e =
    elim (is_plain x) as (λ b. is_plain x ≡ b → drop (cond (not (not b)) (1 + plain_end xs) 0) (x ∷ xs) ≡ y ∷ rest → is_plain y ≡ false) [
      | true ↦ λ passes h. ends_not_plain xs rest y (sym (drop_next (plain_end xs) x xs) ∙ h)
      | false ↦ λ fails h. let same : x ≡ y = cc in sym (ap is_plain same) ∙ fails
    ] refl e

-- if nothing more is before the comment
is_content : (text content reading_after rest : List ℕ) → content ≡ take (plain_end text) text → reading_after ≡ drop (plain_end text) text → without_comment (first_line reading_after) ≡ [] → rest ≡ later_lines reading_after → IsContent text content rest
is_content text content reading_after rest c a none r = grind (arith, content-front, append-nil, front-lawful, later-front)

pub is_content-end : (text content reading_after : List ℕ) → content ≡ take (plain_end text) text → reading_after ≡ drop (plain_end text) text → reading_after ≡ [] → IsContent text content reading_after
is_content-end text content reading_after c a e =
    is_content text content reading_after reading_after c a (ap (λ l. without_comment (first_line l)) e) (e ∙ sym (ap later_lines e))

pub is_content-line : (text content reading_after rest : List ℕ) → content ≡ take (plain_end text) text → reading_after ≡ drop (plain_end text) text → reading_after ≡ 10 ∷ rest → IsContent text content rest
is_content-line text content reading_after rest c a e =
    is_content text content reading_after rest c a (ap (λ l. without_comment (first_line l)) e) (sym (ap later_lines e))

pub is_content-comment : (text content reading_after comment rest : List ℕ) → content ≡ take (plain_end text) text → reading_after ≡ drop (plain_end text) text → reading_after ≡ 35 ∷ comment → rest ≡ later_lines comment → IsContent text content rest
is_content-comment text content reading_after comment rest c a e r =
    is_content text content reading_after rest c a
    (ap (λ l. without_comment (first_line l)) e ∙ ap without_comment (before_first-cons is_end 35 comment refl))
    (r ∙ (sym (after_first-cons is_end 35 comment refl) ∙ sym (ap later_lines e)))

one_fails : (xs ys : List ℕ) (y : ℕ) → is_lawful y ≡ false → list_all is_lawful (xs ++ y ∷ ys) ≡ false
one_fails [] ys y e = ap (λ b. b && list_all is_lawful ys) e
one_fails (x ∷ xs) ys y e = grind (arith, one_fails xs ys y e)

eqb-other : (x y : ℕ) → (x ≡ y → ⊥) → eqb x y ≡ false
eqb-other x y ne = grind (arith, nat_tests)

-- a byte that is not allowed is before the comment
pub not_ascii-other : (text reading_after rest : List ℕ) (y : ℕ) → reading_after ≡ drop (plain_end text) text → reading_after ≡ y ∷ rest → (y ≡ 10 → ⊥) → (y ≡ 35 → ⊥) → is_not_ascii (first_line text) ≡ true
not_ascii-other text reading_after rest y a e not_end not_hash =
    let hash = eqb-other y 35 not_hash in
    let front = take (plain_end text) text in
    let tail : without_comment (first_line (drop (plain_end text) text)) ≡ y ∷ without_comment (first_line rest) =
    ap (λ l. without_comment (first_line l)) (sym a ∙ e) ∙ (ap without_comment (before_first-cons is_end y rest (eqb-other y 10 not_end)) ∙ before_first-cons is_hash y (first_line rest) hash) in
    let unlawful : is_lawful y ≡ false = unless_hash (is_lawful y) (eqb y 35) hash (ends_not_plain text rest y (sym a ∙ e)) in
    ap (λ l. not (list_all is_lawful l)) (content-front text ∙ ap (λ l. front ++ l) tail) ∙ ap not (one_fails front (without_comment (first_line rest)) y unlawful)
  where
    unless_hash : (a b : Bool) → b ≡ false → a && not b ≡ false → a ≡ false
    unless_hash true b e f = absurd (cc)
    unless_hash false b e f = refl

-- cutting the comment twice is cutting it once
without_comment-again : (line : List ℕ) → without_comment (without_comment line) ≡ without_comment line
without_comment-again [] = refl
without_comment-again (x ∷ xs) = grind (arith, take_next, without_comment-again xs)

pub content-again : (line content : List ℕ) → content ≡ without_comment line → without_comment content ≡ content
content-again line content e = ap without_comment e ∙ (without_comment-again line ∙ sym e)

pub is_empty : (xs : List ℕ) → length xs ≡ 0 → xs ≡ []
is_empty [] e = refl
is_empty (x ∷ xs) e = absurd (omega arith)
