-- Lists up to an index, by one more element.
use Rattle.blif.proofs.Prelude.{◌≡◌, ℕ, ◌+◌, ◌<◌, Bool, List, [], ◌∷◌, ◌++◌, None, Some, length, take, drop, slice_get, ap, ◌∙◌, arith, flat_map, take_more, drop_more, append-nil, get_or_from_slice_get, flat_map-append, Found, BlifFault, BlifFaultKind, WordFault, at_line, first_fault, first_kind}

pub take_place : {X : Type 0} (xs : List X) (i : ℕ) (x : X) → i < length xs → slice_get xs i ≡ Some x → take (i + 1) xs ≡ take i xs ++ x ∷ []
take_place xs i x within at = take_more xs i x within ∙ ap (λ y. take i xs ++ y ∷ []) (get_or_from_slice_get xs i x x at)

pub drop_place : {X : Type 0} (xs : List X) (i : ℕ) (x : X) → i < length xs → slice_get xs i ≡ Some x → drop i xs ≡ x ∷ drop (i + 1) xs
drop_place xs i x within at = drop_more xs i x within ∙ ap (λ y. y ∷ drop (i + 1) xs) (get_or_from_slice_get xs i x x at)

pub flat_map_push : {X A : Type 0} (f : X → List A) (xs : List X) (x : X) → flat_map f (xs ++ x ∷ []) ≡ flat_map f xs ++ f x
flat_map_push f xs x = flat_map-append f xs (x ∷ []) ∙ ap (λ last. flat_map f xs ++ last) (append-nil (f x))

-- the first of a line's faults and others is the line's, if it has one
pub first_found : (at_end : Bool) (number : ℕ) (faults : List WordFault) (others : List (Found BlifFault)) (kind : BlifFaultKind) → Some kind ≡ first_kind faults → first_fault (at_line at_end number faults ++ others) ≡ Some (record { line = number; kind = kind })
first_found at_end number faults others kind h = grind arith

-- if the line has no fault, the first fault is that of the others
pub first_none : (at_end : Bool) (number : ℕ) (faults : List WordFault) (others : List (Found BlifFault)) → None ≡ first_kind faults → first_fault (at_line at_end number faults ++ others) ≡ first_fault others
first_none at_end number faults others h = grind arith
