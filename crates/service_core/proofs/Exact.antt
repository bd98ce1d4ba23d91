-- Claims and releases keep a book exact.
use Rattle.service_core.proofs.Prelude.{◌≡◌, ◌≢◌, ℕ, List, [], Bool, true, false, eqb, Some, None, refl, sym, ap, ◌∙◌, subst, arith, ◌↔◌, if◌then◌else◌, Decides-eqb, false≢true, none-some, same_Some, Resource, has, AreOwned, Owners, Shifts, owner_of}

-- the book has exactly these owners, each with what it owns
abbrev pub Exact : Owners → (ℕ → List Resource) → Type 0
Exact book owned = (resource : Resource) (id : ℕ) → (owner_of book resource ≡ Some id) ↔ (has (owned id) resource ≡ true)

pub exact_same : (book : Owners) (old new : ℕ → List Resource) → ((id : ℕ) → new id ≡ old id) → Exact book old → Exact book new
exact_same book old new same exact = λ r id. subst (λ xs. (owner_of book r ≡ Some id) ↔ (has xs r ≡ true)) (sym (same id)) (exact r id)

ids_differ : (id k : ℕ) → eqb k id ≡ false → k ≢ id
ids_differ id k e same = false≢true (sym e ∙ (Decides-eqb k id).1 same)

-- nobody owns now what that one owned
pub exact_released : (book left : Owners) (old new : ℕ → List Resource) (id : ℕ) → AreOwned book (old id) None left → new id ≡ [] → ((k : ℕ) → k ≢ id → new k ≡ old k) → Exact book old → Exact left new
exact_released book left old new id released nothing others exact = grind arith

-- that one owns now what nobody owned
pub exact_claimed : (book left : Owners) (old new : ℕ → List Resource) (id : ℕ) → AreOwned book (new id) (Some id) left → old id ≡ [] → ((k : ℕ) → k ≢ id → new k ≡ old k) →
    ((r : Resource) → has (new id) r ≡ true → owner_of book r ≡ None) → Exact book old → Exact left new
exact_claimed book left old new id claimed nothing others free exact = λ r k. by_id r k (eqb k id) refl (has (new id) r) refl
  where
    owner : (r : Resource) (b : Bool) → has (new id) r ≡ b → owner_of left r ≡ (if b then Some id else owner_of book r)
    owner r b e = claimed.1 r ∙ ap (λ t. if t then Some id else owner_of book r) e

    by_id : (r : Resource) (k : ℕ) (t : Bool) → eqb k id ≡ t → (b : Bool) → has (new id) r ≡ b → (owner_of left r ≡ Some k) ↔ (has (new k) r ≡ true)
    by_id r k true e true h = ((λ some. ap (λ n. has (new n) r) ((Decides-eqb k id).0 e) ∙ h), (λ in_new. owner r true h ∙ ap Some (sym ((Decides-eqb k id).0 e))))
    by_id r k true e false h = (
      (λ some. absurd (false≢true (ap (λ xs. has xs r) (sym nothing) ∙ (exact r id).0 (sym (owner r false h) ∙ (some ∙ ap Some ((Decides-eqb k id).0 e)))))),
      (λ in_new. absurd (false≢true (sym h ∙ (ap (λ n. has (new n) r) (sym ((Decides-eqb k id).0 e)) ∙ in_new)))),
    )
    by_id r k false e true h = (
      (λ some. absurd (ids_differ id k e (same_Some _ _ (sym some ∙ owner r true h)))),
      (λ in_new. absurd (none-some k (sym (free r h) ∙ (exact r k).1 (ap (λ xs. has xs r) (sym (others k (ids_differ id k e))) ∙ in_new)))),
    )
    by_id r k false e false h = (
      (λ some. ap (λ xs. has xs r) (others k (ids_differ id k e)) ∙ (exact r k).0 (sym (owner r false h) ∙ some)),
      (λ in_new. owner r false h ∙ (exact r k).1 (ap (λ xs. has xs r) (sym (others k (ids_differ id k e))) ∙ in_new)),
    )

-- what one owns moves to places at which nobody else owns anything
pub exact_shifted : (book left : Owners) (old new : ℕ → List Resource) (id : ℕ) → Shifts book id (old id) (new id) left → ((k : ℕ) → k ≢ id → new k ≡ old k) →
    ((r : Resource) (k : ℕ) → k ≢ id → has (new id) r ≡ true → has (new k) r ≡ true → ⊥) → Exact book old → Exact left new
exact_shifted book left old new id shifted others apart exact = grind arith
