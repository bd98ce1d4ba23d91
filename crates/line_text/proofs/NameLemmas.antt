-- Names by number, and as the texts that their slices refer to.
use Rattle.line_text.proofs.Prelude.{◌≡◌, ◌<◌, length, position, arith, ℕ, ◌+◌, Bool, true, false, List, [], ◌∷◌, ◌++◌, ◌||◌, if◌then◌else◌, refl, sym, ap, ◌∙◌, list_any, position_or_len, bytes_eq, map_push, prefix_len-le-length, texts, has_name, number_of, with_name}
use Rattle.std.specs.Borrow.{Bor}
use Rattle.std.specs.Option.{unwrap_or}

pub has_name-texts : (slices : List (Bor (List ℕ))) (name : List ℕ) → list_any (λ slice. bytes_eq name slice.now) slices ≡ has_name (texts slices) name
has_name-texts [] name = refl
has_name-texts (slice ∷ slices) name = ap (λ b. bytes_eq name slice.now || b) (has_name-texts slices name)

texts-if : (b : Bool) (slices : List (Bor (List ℕ))) (slice : Bor (List ℕ)) → texts (if b then slices else slices ++ slice ∷ []) ≡ (if b then texts slices else texts slices ++ slice.now ∷ [])
texts-if b slices slice = grind (arith, map_push)

pub with_name-texts : (slices : List (Bor (List ℕ))) (slice : Bor (List ℕ)) → texts (if list_any (λ s. bytes_eq slice.now s.now) slices then slices else slices ++ slice ∷ []) ≡ with_name (texts slices) slice.now
with_name-texts slices slice = grind (arith, texts-if, has_name-texts slices slice.now)

pub number_of-texts : (slices : List (Bor (List ℕ))) (name : List ℕ) → position_or_len (λ slice. bytes_eq name slice.now) slices ≡ number_of (texts slices) name
number_of-texts [] name = refl
number_of-texts (slice ∷ slices) name = grind (arith, number_of-texts slices name)

pub number_of-found : (slices : List (Bor (List ℕ))) (name : List ℕ) → unwrap_or (position (λ slice. bytes_eq name slice.now) slices) (length slices) ≡ number_of (texts slices) name
number_of-found slices name = grind (arith, prefix_len-le-length, number_of-texts)

-- the number of a name that is the first of the names
pub number_of-first : (first : List ℕ) (names : List (List ℕ)) (name : List ℕ) → bytes_eq name first ≡ true → number_of (first ∷ names) name ≡ 0
number_of-first first names name e = rw e refl

pub with_name-first : (first : List ℕ) (names : List (List ℕ)) (name : List ℕ) → bytes_eq name first ≡ true → with_name (first ∷ names) name ≡ first ∷ names
with_name-first first names name e = rw e refl

-- the number of a name that is not the first
pub number_of-later : (first : List ℕ) (names : List (List ℕ)) (name : List ℕ) → bytes_eq name first ≡ false → number_of (first ∷ names) name ≡ 1 + number_of names name
number_of-later first names name e = rw e refl

pub with_name-later : (first : List ℕ) (names : List (List ℕ)) (name : List ℕ) → bytes_eq name first ≡ false → with_name (first ∷ names) name ≡ first ∷ with_name names name
with_name-later first names name e = grind arith

pub has_name-rest : (name first : List ℕ) (names : List (List ℕ)) → bytes_eq name first ≡ false → has_name (first ∷ names) name ≡ true → has_name names name ≡ true
has_name-rest name first names e h = sym (ap (λ c. c || has_name names name) e) ∙ h

-- a name that is among the names has a number below their count
pub number_of-within : (names : List (List ℕ)) (name : List ℕ) → has_name names name ≡ true → number_of names name < length names
number_of-within [] name h = absurd cc
number_of-within (first ∷ names) name h = by (bytes_eq name first) refl (λ there. number_of-within names name there)
  where
    by : (b : Bool) → bytes_eq name first ≡ b → (has_name names name ≡ true → number_of names name < length names) → number_of (first ∷ names) name < length (first ∷ names)
    by true e rest = omega (arith, number_of-first first names name e)
    by false e rest = omega (arith, number_of-later first names name e, rest (has_name-rest name first names e h))
