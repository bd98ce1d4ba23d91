-- Facts of tenancies, one after another.
use Rattle.desk_replies.proofs.Prelude.{◌≡◌, ◌++◌, ◌∙◌, ◌+◌, ℕ, List, [], ◌∷◌, Some, append_assoc, ap, subst, sym, take, AllZip, slice_get, take_more, slice_get_within, get_or_from_slice_get, zip_more}

-- one more is added
pub one_added : {A C : Type 0} (R : A → C → Type 0) (xs : List A) (i : ℕ) (x : A) (old mid new : List C) (y : C) → slice_get xs i ≡ Some x
    → (added : List C) × (mid ≡ old ++ added) × AllZip R (take i xs) added → new ≡ mid ++ y ∷ [] → R x y
    → (added : List C) × (new ≡ old ++ added) × AllZip R (take (i + 1) xs) added
one_added R xs i x old mid new y e h k one =
    let more : take (i + 1) xs ≡ take i xs ++ x ∷ [] = take_more xs i x (slice_get_within xs i x e) ∙ ap (λ z. take i xs ++ z ∷ []) (get_or_from_slice_get xs i x x e) in
    (h.0 ++ y ∷ [], k ∙ ap (λ t. t ++ y ∷ []) h.1 ∙ append_assoc old h.0 (y ∷ []), subst (λ zs. AllZip R zs (h.0 ++ y ∷ [])) (sym more) (zip_more R (take i xs) h.0 x y h.2 one))
