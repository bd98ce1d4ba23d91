-- A list in order is determined by what it holds.
use Rattle.replies_law.proofs.Prelude.{◌≡◌, ◌⊎◌, inl, inr, ℕ, zero, suc, ◌<◌, List, [], ◌∷◌, refl, sym, ap, ◌∙◌, subst, arith, AllPairs, Contains, Owned, Resource, IsEarlier, resource_rank}

lex : (x y : ℕ) (R S : Type 0) → (x < y) ⊎ ((x ≡ y) × R) → (y < x) ⊎ ((y ≡ x) × S) → (R → S → ⊥) → ⊥
lex x y R S h1 h2 never = grind arith

last_never : (x y m n : ℕ) → (x < y) ⊎ ((x ≡ y) × (m < n)) → (y < x) ⊎ ((y ≡ x) × (n < m)) → ⊥
last_never x y m n a b = lex x y (m < n) (n < m) a b (λ p q. omega (arith, p, q))

not_both : (a b : Resource) → IsEarlier a b → IsEarlier b a → ⊥
not_both a b e f = lex a.x b.x _ _ e f (λ e f. lex (resource_rank a.kind) (resource_rank b.kind) _ _ e f (λ e f. last_never a.y b.y a.n b.n e f))

abbrev Ordered : List Owned → Type 0
Ordered list = AllPairs (λ a b. IsEarlier a.resource b.resource) list

tail_ordered : (x : Owned) (xs : List Owned) → Ordered (x ∷ xs) → Ordered xs
tail_ordered x xs ordered = λ i k d low high. ordered (suc i) (suc k) d (omega (arith, low)) (omega (arith, high))

-- the elements after the first are later
later : (x z : Owned) (xs : List Owned) → Ordered (x ∷ xs) → Contains xs z → IsEarlier x.resource z.resource
later x z xs ordered in_it =
    let P : Owned → Type 0 = λ o. IsEarlier x.resource o.resource in
    let less = in_it.1 in
    subst P in_it.2 (ordered zero (suc in_it.0) z (omega arith) (omega (arith, less)))

behind : (x z : Owned) (xs : List Owned) → Contains xs z → Contains (x ∷ xs) z
behind x z xs in_it = let less = in_it.1 in (suc in_it.0, omega (arith, less), in_it.2)

first : (x : Owned) (xs : List Owned) → Contains (x ∷ xs) x
first x xs = (zero, omega arith, refl)

cases : (x z : Owned) (xs : List Owned) → Contains (x ∷ xs) z → (x ≡ z) ⊎ Contains xs z
cases x z xs h1 = grind arith

abbrev Alike : List Owned → List Owned → Type 0
Alike xs ys = (z : Owned) → (Contains xs z → Contains ys z) × (Contains ys z → Contains xs z)

none_in : (z : Owned) → Contains [] z → ⊥
none_in z in_it = let less = in_it.1 in omega (arith, less)

same_head : (x y : Owned) (xs ys : List Owned) → Ordered (x ∷ xs) → Ordered (y ∷ ys) → Alike (x ∷ xs) (y ∷ ys) → x ≡ y
same_head x y xs ys one other alike = by (cases y x ys ((alike x).0 (first x xs))) (cases x y xs ((alike y).1 (first y ys)))
  where
    by : (y ≡ x) ⊎ Contains ys x → (x ≡ y) ⊎ Contains xs y → x ≡ y
    by (inl e) f = sym e
    by (inr e) (inl f) = f
    by (inr e) (inr f) = absurd (not_both x.resource y.resource (later x y xs one f) (later y x ys other e))

into_tail : (x y z : Owned) (xs ys : List Owned) → x ≡ y → Ordered (x ∷ xs) → Contains xs z → Contains (y ∷ ys) z → Contains ys z
into_tail x y z xs ys same ordered in_it in_other = grind (arith, later x z xs ordered in_it)

pub same_list : (xs ys : List Owned) → Ordered xs → Ordered ys → Alike xs ys → xs ≡ ys
same_list [] [] one other alike = refl
same_list [] (y ∷ ys) one other alike = absurd (none_in y ((alike y).1 (first y ys)))
same_list (x ∷ xs) [] one other alike = absurd (none_in x ((alike x).0 (first x xs)))
same_list (x ∷ xs) (y ∷ ys) one other alike =
    let same : x ≡ y = same_head x y xs ys one other alike in
    let tails : xs ≡ ys = same_list xs ys (tail_ordered x xs one) (tail_ordered y ys other) (λ z.
    ((λ in_it. into_tail x y z xs ys same one in_it ((alike z).0 (behind x z xs in_it))), (λ in_it. into_tail y x z ys xs (sym same) other in_it ((alike z).1 (behind y z ys in_it))))) in
    ap (λ o. o ∷ xs) same ∙ ap (λ os. y ∷ os) tails
