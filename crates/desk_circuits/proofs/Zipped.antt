-- Two lists, element by element.
use Rattle.desk_circuits.proofs.Prelude.{◌≡◌, ◌++◌, ◌∙◌, ◌+◌, ℕ, List, [], ◌∷◌, Some, append_assoc, ap, map, subst, sym, take, AllZip, slice_get, map_more, slice_get_within, get_or_from_slice_get}

-- one more
pub zip_more : {A B : Type 0} (R : A → B → Type 0) (xs : List A) (ys : List B) (x : A) (y : B) → AllZip R xs ys → R x y → AllZip R (xs ++ x ∷ []) (ys ++ y ∷ [])
zip_more R [] [] x y all one = (one, tt)
zip_more R [] (y' ∷ ys) x y all one = absurd all
zip_more R (x' ∷ xs) [] x y all one = absurd all
zip_more R (x' ∷ xs) (y' ∷ ys) x y all one = (all.0, zip_more R xs ys x y all.1 one)

-- one more is added, of what the things are told as
pub added_more : {A B C : Type 0} (R : B → C → Type 0) (f : A → B) (xs : List A) (i : ℕ) (x : A) (old mid new : List C) (y : C) → slice_get xs i ≡ Some x
    → (added : List C) × (mid ≡ old ++ added) × AllZip R (map f (take i xs)) added → new ≡ mid ++ y ∷ [] → R (f x) y
    → (added : List C) × (new ≡ old ++ added) × AllZip R (map f (take (i + 1) xs)) added
added_more R f xs i x old mid new y e h k one =
    let more : map f (take (i + 1) xs) ≡ map f (take i xs) ++ f x ∷ [] = map_more f xs i x (slice_get_within xs i x e) ∙ ap (λ z. map f (take i xs) ++ f z ∷ []) (get_or_from_slice_get xs i x x e) in
    (h.0 ++ y ∷ [], k ∙ ap (λ t. t ++ y ∷ []) h.1 ∙ append_assoc old h.0 (y ∷ []), subst (λ zs. AllZip R zs (h.0 ++ y ∷ [])) (sym more) (zip_more R (map f (take i xs)) h.0 (f x) y h.2 one))
