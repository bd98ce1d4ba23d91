-- Lists with an entry for each name, when one name's entry changes.
use Rattle.printed_replies.proofs.Prelude.{◌≡◌, ℕ, arith, Bool, true, false, ◌||◌, cond, List, [], ◌∷◌, ◌++◌, map, set, get_or, fold, Some, None, refl, ap, ◌∙◌, ⊤, bytes_eq, list_any-append, bytes_eq-Decides, has_name, number_of, AskedLine, names_of, with_speaker}

-- no name occurs twice
abbrev pub AreOnce : List (List ℕ) → Type 0
AreOnce [] = ⊤
AreOnce (name ∷ names) = (has_name names name ≡ false) × AreOnce names

pub other_way : (a b : List ℕ) → bytes_eq a b ≡ false → bytes_eq b a ≡ false
other_way a b differ = grind (arith, bytes_eq-Decides)

or_parts : (a b : Bool) → (a || b) ≡ false → (a ≡ false) × (b ≡ false)
or_parts a b h = grind arith

both_no : (a b : Bool) → a ≡ false → b ≡ false → (a || (b || false)) ≡ false
both_no a b e f = grind arith

-- one new name more
once_more : (names : List (List ℕ)) (name : List ℕ) → AreOnce names → has_name names name ≡ false → AreOnce (names ++ name ∷ [])
once_more [] name once new = (refl, tt)
once_more (first ∷ names) name once new =
    let parts = or_parts (bytes_eq name first) (has_name names name) new in
    (list_any-append (bytes_eq first) names (name ∷ []) ∙ both_no (has_name names first) (bytes_eq first name) once.0 (other_way name first parts.0), once_more names name once.1 parts.1)

once_after : (names : List (List ℕ)) (asked : List AskedLine) → AreOnce names → AreOnce (fold (λ ns line. with_speaker ns line.speaker) names asked)
once_after names [] once = once
once_after names (line ∷ asked) once = once_after (with_speaker names line.speaker) asked (by_speaker line.speaker)
  where
    by : (name : List ℕ) (b : Bool) → has_name names name ≡ b → AreOnce (cond b names (names ++ name ∷ []))
    by name true e = once
    by name false e = once_more names name once e

    by_speaker : (speaker : _) → AreOnce (with_speaker names speaker)
    by_speaker None = once
    by_speaker (Some name) = by name (has_name names name) refl

pub names_once : (asked : List AskedLine) → AreOnce (names_of asked)
names_once asked = once_after [] asked tt

-- the entries of names stay, if the name that changes is not among them
all_others : {S : Type 0} (f g : List ℕ → S) (own : List ℕ) (names : List (List ℕ)) → ((name : List ℕ) → bytes_eq own name ≡ false → g name ≡ f name) → has_name names own ≡ false → map g names ≡ map f names
all_others f g own [] others out = refl
all_others f g own (name ∷ names) others out =
    let parts = or_parts (bytes_eq own name) (has_name names own) out in
    ap (λ x. x ∷ map g names) (others name parts.0) ∙ ap (λ xs. f name ∷ xs) (all_others f g own names others parts.1)

-- the entry of one name is updated, and those of all others stay
pub one_updated : {S : Type 0} (f g : List ℕ → S) (u : S → S) (d : S) (own : List ℕ) (names : List (List ℕ)) → AreOnce names → ((name : List ℕ) → bytes_eq own name ≡ false → g name ≡ f name) → g own ≡ u (f own) →
    map g names ≡ set (map f names) (number_of names own) (u (get_or (map f names) (number_of names own) d))
one_updated f g u d own [] once others is = refl
one_updated f g u d own (name ∷ names) once others is = grind (arith, bytes_eq-Decides, all_others, one_updated f g u d own names once.1 others is)
