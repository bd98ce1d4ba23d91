-- Texts that are written in parts.
use Rattle.circuit_verilog.proofs.Prelude.{◌≡◌, ◌∙◌, ℕ, ◌+◌, ◌<◌, ◌≤◌, List, [], ◌∷◌, ◌++◌, Result, Ok, Err, Some, get_or, length, take, ap, sym, append_assoc, append-nil, arith, OnOk, flat_map, range_with_len, slice_get, flat_map-append, take_all, take_more, length-range_with_len, get_or_from_slice_get, slice_get_within, place_at}

-- one text after another
pub then : (a b c s t : List ℕ) → b ≡ a ++ s → c ≡ b ++ t → c ≡ a ++ (s ++ t)
then a b c s t p q = q ∙ ap (λ x. x ++ t) p ∙ append_assoc a s t

-- what holds after a success, by what holds after it
pub ok_then : {A E P Q : Type 0} (r : Result A E) → (P → Q) → OnOk r P → OnOk r Q
ok_then (Ok x) f h = f h
ok_then (Err e) f h = h

-- the texts of the elements up to an index, with one more
pub one_more : {X : Type 0} (f : X → List ℕ) (xs : List X) (i : ℕ) (x : X) (a b c : List ℕ) → slice_get xs i ≡ Some x → b ≡ a ++ flat_map f (take i xs) → c ≡ b ++ f x → c ≡ a ++ flat_map f (take (i + 1) xs)
one_more f xs i x a b c e p q =
    let more : flat_map f (take i xs) ++ f x ≡ flat_map f (take (i + 1) xs) =
    sym (ap (flat_map f) (take_more xs i x (slice_get_within xs i x e)) ∙ flat_map-append f (take i xs) (get_or xs i x ∷ [])
    ∙ ap (λ y. flat_map f (take i xs) ++ (f y ++ [])) (get_or_from_slice_get xs i x x e)
    ∙ ap (λ y. flat_map f (take i xs) ++ y) (append-nil (f x))) in
    then a b c (flat_map f (take i xs)) (f x) p q ∙ ap (λ y. a ++ y) more

-- the texts of all elements
pub all_texts : {X : Type 0} (f : X → List ℕ) (xs : List X) (i : ℕ) (a b : List ℕ) → length xs ≤ i → b ≡ a ++ flat_map f (take i xs) → b ≡ a ++ flat_map f xs
all_texts f xs i a b end p = p ∙ ap (λ ys. a ++ flat_map f ys) (take_all i xs end)

-- the same of numbers from 0 on, and at their end
pub number_more : (f : ℕ → List ℕ) (count i : ℕ) (a b c : List ℕ) → i < count → b ≡ a ++ flat_map f (take i (range_with_len 0 count)) → c ≡ b ++ f i → c ≡ a ++ flat_map f (take (i + 1) (range_with_len 0 count))
number_more f count i a b c within p q = one_more f (range_with_len 0 count) i i a b c (place_at count i within) p q

pub numbers_end : (f : ℕ → List ℕ) (count i : ℕ) (a b : List ℕ) → count ≤ i → b ≡ a ++ flat_map f (take i (range_with_len 0 count)) → b ≡ a ++ flat_map f (range_with_len 0 count)
numbers_end f count i a b end p = all_texts f (range_with_len 0 count) i a b (let long = length-range_with_len 0 count in omega arith) p
