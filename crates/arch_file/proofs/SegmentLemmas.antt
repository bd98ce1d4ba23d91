-- Reading the pairs of a segment line one by one.
use Rattle.arch_file.proofs.Prelude.{◌≡◌, ◌∙◌, ℕ, ◌+◌, ◌<◌, ◌≤◌, List, [], ◌∷◌, Bool, true, false, cond, length, drop, get_or, refl, ap, sym, arith, add-one, ◌%◌, ◌||◌, not, eq-eqb, Some, Bor, option_eq, nat_eq, bytes_eq, drop-cons, drop-map, length-drop, millionths_of, are_ones, is_one, segment_faults, values_under, one, only_if, least_kind, BadNumber, NotProfile, texts}
use Rattle.arch_file.specs.declared.fault.ArchKeyword.TheVariants as keywords

-- nothing is left
abbrev pub is_none_left : List (List ℕ) → Bool
is_none_left [] = true
is_none_left (value ∷ values) = false

-- what the remaining values must be, given whether a 1 was found
abbrev pub is_one_still : Bool → List (List ℕ) → Bool
is_one_still is_found values = cond is_found (is_none_left values) (is_one values)

-- the list from an index on begins with the next two words
pub drop-two : (words : List (Bor (List ℕ))) (i : ℕ) (d : Bor (List ℕ)) → i + 1 < length words → drop i words ≡ get_or words i d ∷ get_or words (i + 1) d ∷ drop (i + 2) words
drop-two words i d inside =
    let first : i < length words = omega arith in
    let second : drop (i + 1) words ≡ get_or words (i + 1) d ∷ drop (i + 1 + 1) words = rw (add-one (i + 1)) (drop-cons words (i + 1) d inside) in
    let both : drop i words ≡ get_or words i d ∷ drop (i + 1) words = rw (add-one i) (drop-cons words i d first) in
    let two : i + 1 + 1 ≡ i + 2 = omega arith in
    both ∙ ap (λ xs. get_or words i d ∷ xs) (second ∙ ap (λ n. get_or words (i + 1) d ∷ drop n words) two)

-- one more pair
pub values_under-pair : (key : List ℕ) (words : List (Bor (List ℕ))) (i next : ℕ) (d : Bor (List ℕ)) → next ≡ i + 2 → i + 1 < length words → values_under key (drop i (texts words)) ≡ cond (bytes_eq (get_or words i d).now key) ((get_or words (i + 1) d).now ∷ values_under key (drop next (texts words))) (values_under key (drop next (texts words)))
values_under-pair key words i next d is inside =
    let here : drop i (texts words) ≡ (get_or words i d).now ∷ (get_or words (i + 1) d).now ∷ drop next (texts words) =
    drop-map (λ x. x.now) i words ∙ ap texts (drop-two words i d inside) ∙ ap (λ xs. (get_or words i d).now ∷ (get_or words (i + 1) d).now ∷ xs) (sym (drop-map (λ x. x.now) (i + 2) words) ∙ ap (λ n. drop n (texts words)) (sym is)) in
    ap (values_under key) here

-- less than a pair is left
pub values_under-short : (key : List ℕ) (words : List (List ℕ)) → length words ≤ 1 → values_under key words ≡ []
values_under-short key [] short = refl
values_under-short key (word ∷ []) short = refl
values_under-short key (word ∷ second ∷ words) short = absurd (omega arith)

pub values_under-end : (key : List ℕ) (words : List (List ℕ)) (i : ℕ) → length words ≤ i + 1 → values_under key (drop i words) ≡ []
values_under-end key words i ended = values_under-short key (drop i words) (omega (arith, length-drop i words))

-- a 1 was found
pub is_one-found : (value : List ℕ) (values : List (List ℕ)) → option_eq nat_eq (millionths_of value) (Some one) ≡ true → is_one (value ∷ values) ≡ is_none_left values
is_one-found value [] found = found
is_one-found value (second ∷ values) found = refl

-- a value that isn't 1
pub is_one-other : (value : List ℕ) (values : List (List ℕ)) → option_eq nat_eq (millionths_of value) (Some one) ≡ false → is_one (value ∷ values) ≡ false
is_one-other value [] found = found
is_one-other value (second ∷ values) found = refl

bad_number_least : (b : Bool) → least_kind (BadNumber ∷ only_if b (NotProfile keywords.Segment)) ≡ Some BadNumber
bad_number_least true = refl
bad_number_least false = refl

-- a wrong number of words comes before all other faults
pub segment_faults-odd : (is_second : Bool) (words : List (List ℕ)) → length words % 2 ≡ 1 → least_kind (segment_faults is_second words) ≡ Some BadNumber
unfolding segment_faults
segment_faults-odd is_second words odd =
    rw (eq-eqb (length words % 2) 1 odd) (bad_number_least (is_second || not (are_ones words)))
