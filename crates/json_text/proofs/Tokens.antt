-- The tokens of lists and objects.
use Rattle.json_text.proofs.Prelude.{◌≡◌, ◌∙◌, ℕ, List, [], ◌∷◌, ◌++◌, ◌+◌, Result, Ok, Err, Some, map, get_or, take, refl, ap, sym, append_assoc, append-nil, flat_map-append, take_more, get_or_from_slice_get, slice_get_within, OnOk, flat_map, slice_get, Json, Token, begin_array, begin_object, end_array, end_object, key, items_tokens, json_tokens, members_tokens, items_of, list_of, member_tokens, members_of, object_of}

items_end : (values : List Json) → items_tokens (items_of values) ≡ flat_map json_tokens values ++ end_array ∷ []
items_end [] = refl
items_end (one ∷ rest) = ap (λ (ts : List Token). json_tokens one ++ ts) (items_end rest) ∙ sym (append_assoc (json_tokens one) (flat_map json_tokens rest) (end_array ∷ []))

-- the tokens of a list are those of its values between brackets
pub list_tokens : (values : List Json) → json_tokens (list_of values) ≡ begin_array ∷ (flat_map json_tokens values ++ end_array ∷ [])
list_tokens values = ap (λ (ts : List Token). begin_array ∷ ts) (items_end values)

members_end : (members : List (List ℕ × Json)) → members_tokens (members_of members) ≡ flat_map member_tokens members ++ end_object ∷ []
members_end [] = refl
members_end (one ∷ rest) =
    ap (λ (ts : List Token). key one.0 ∷ (json_tokens one.1 ++ ts)) (members_end rest) ∙ sym (append_assoc (member_tokens one) (flat_map member_tokens rest) (end_object ∷ []))

-- the tokens of an object are those of its members between brackets
pub object_tokens : (members : List (List ℕ × Json)) → json_tokens (object_of members) ≡ begin_object ∷ (flat_map member_tokens members ++ end_object ∷ [])
object_tokens members = ap (λ (ts : List Token). begin_object ∷ ts) (members_end members)

-- one list after another
pub then : {T : Type 0} (a b c s t : List T) → b ≡ a ++ s → c ≡ b ++ t → c ≡ a ++ (s ++ t)
then a b c s t p q = q ∙ ap (λ x. x ++ t) p ∙ append_assoc a s t

-- what holds after a success, by what holds after it
pub ok_then : {A E P Q : Type 0} (r : Result A E) → (P → Q) → OnOk r P → OnOk r Q
ok_then (Ok x) f h = f h
ok_then (Err e) f h = h

-- a bracket, what is between, and a bracket
pub between : {T : Type 0} (first last : T) (a b c d s : List T) → b ≡ a ++ first ∷ [] → c ≡ b ++ s → d ≡ c ++ last ∷ [] → d ≡ a ++ first ∷ (s ++ last ∷ [])
between first last a b c d s p q r = then a b d (first ∷ []) (s ++ last ∷ []) p (then b c d s (last ∷ []) q r)

-- an object with these members is written
pub object_written : (members : List (List ℕ × Json)) (a b c d : List Token) → b ≡ a ++ begin_object ∷ [] → c ≡ b ++ flat_map member_tokens members → d ≡ c ++ end_object ∷ [] → d ≡ a ++ json_tokens (object_of members)
object_written members a b c d p q r = between begin_object end_object a b c d (flat_map member_tokens members) p q r ∙ ap (λ (ts : List Token). a ++ ts) (sym (object_tokens members))

values_tokens : {X : Type 0} (f : X → Json) (xs : List X) → flat_map (λ x. json_tokens (f x)) xs ≡ flat_map json_tokens (map f xs)
values_tokens f [] = refl
values_tokens f (x ∷ xs) = ap (λ (ts : List Token). json_tokens (f x) ++ ts) (values_tokens f xs)

-- a list of values, one for each element, is written
pub list_written : {X : Type 0} (f : X → Json) (xs : List X) (a b c d : List Token) → b ≡ a ++ begin_array ∷ [] → c ≡ b ++ flat_map (λ x. json_tokens (f x)) xs → d ≡ c ++ end_array ∷ [] → d ≡ a ++ json_tokens (list_of (map f xs))
list_written f xs a b c d p q r =
    between begin_array end_array a b c d (flat_map (λ x. json_tokens (f x)) xs) p q r
    ∙ ap (λ (ts : List Token). a ++ begin_array ∷ (ts ++ end_array ∷ [])) (values_tokens f xs) ∙ ap (λ (ts : List Token). a ++ ts) (sym (list_tokens (map f xs)))

-- members after members
pub members_more : (members more : List (List ℕ × Json)) (a b c : List Token) → b ≡ a ++ flat_map member_tokens members → c ≡ b ++ flat_map member_tokens more → c ≡ a ++ flat_map member_tokens (members ++ more)
members_more members more a b c p q =
    then a b c (flat_map member_tokens members) (flat_map member_tokens more) p q ∙ ap (λ (ts : List Token). a ++ ts) (sym (flat_map-append member_tokens members more))

-- the name of a member, and its value
pub one_member : (name : List ℕ) (value : Json) (a b c : List Token) → b ≡ a ++ key name ∷ [] → c ≡ b ++ json_tokens value → c ≡ a ++ flat_map member_tokens ((name, value) ∷ [])
one_member name value a b c p q =
    then a b c (key name ∷ []) (json_tokens value) p q ∙ ap (λ (ts : List Token). a ++ (key name ∷ ts)) (sym (append-nil (json_tokens value)))

-- the tokens of the elements up to an index, with one more
pub one_more : {X T : Type 0} (f : X → List T) (xs : List X) (i : ℕ) (x : X) (a b c : List T) → slice_get xs i ≡ Some x → b ≡ a ++ flat_map f (take i xs) → c ≡ b ++ f x → c ≡ a ++ flat_map f (take (i + 1) xs)
one_more f xs i x a b c e p q =
    let more : flat_map f (take i xs) ++ f x ≡ flat_map f (take (i + 1) xs) =
    sym (ap (flat_map f) (take_more xs i x (slice_get_within xs i x e)) ∙ flat_map-append f (take i xs) (get_or xs i x ∷ [])
    ∙ ap (λ y. flat_map f (take i xs) ++ (f y ++ [])) (get_or_from_slice_get xs i x x e)
    ∙ ap (λ y. flat_map f (take i xs) ++ y) (append-nil (f x))) in
    then a b c (flat_map f (take i xs)) (f x) p q ∙ ap (λ y. a ++ y) more
