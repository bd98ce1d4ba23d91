-- Counts of the elements that pass one of several tests.
use Rattle.track_bound.proofs.Prelude.{ℕ, zero, suc, ◌≡◌, ◌+◌, ◌*◌, ◌<◌, ◌≤◌, Bool, true, false, cond, ◌||◌, List, [], ◌∷◌, refl, inl, inr, arith, subst, sym, count_by, AllZip, cases_eq, or_left, or_right, sum_by-cons, any_below}

pub any_at : (test : ℕ → Bool) (n k : ℕ) → k < n → test k ≡ true → any_below test n ≡ true
any_at test zero k less is = absurd (omega (arith, less))
any_at test (suc n) k less is = elim (cases_eq k n) [
  | inl e ↦ or_left (test n) (any_below test n) (subst (λ m. test m ≡ true) e is)
  | inr other ↦ or_right (test n) (any_below test n) (any_at test n k (omega (arith, less, other)) is)
]

count-cons : {X : Type 0} (test : X → Bool) (x : X) (xs : List X) → count_by test (x ∷ xs) ≡ cond (test x) 1 0 + count_by test xs
count-cons test x xs = sum_by-cons (λ y. cond (test y) 1 0) x xs

either : (a b : Bool) → cond (a || b) 1 0 ≤ cond a 1 0 + cond b 1 0
either true b = omega arith
either false b = omega arith

-- no more pass one of two tests than pass the one and than pass the other, together
count_either : {X : Type 0} (p q : X → Bool) (xs : List X) → count_by (λ x. p x || q x) xs ≤ count_by p xs + count_by q xs
count_either p q [] = omega arith
count_either p q (x ∷ xs) =
    omega (arith, count-cons (λ y. p y || q y) x xs, count-cons p x xs, count-cons q x xs, either (p x) (q x), count_either p q xs)

count_none : {X : Type 0} (xs : List X) → count_by (λ x. false) xs ≡ 0
count_none [] = refl
count_none (x ∷ xs) = omega (arith, count-cons (λ y. false) x xs, count_none xs)

-- where no more than `most` pass each test, no more than that for each test pass one of them
pub count_any : {X : Type 0} (test : ℕ → X → Bool) (most : ℕ) (xs : List X) → ((k : ℕ) → count_by (test k) xs ≤ most) → (n : ℕ) → count_by (λ x. any_below (λ k. test k x) n) xs ≤ n * most
count_any test most xs few zero = omega (arith, count_none xs)
count_any test most xs few (suc n) =
    omega (arith, count_either (test n) (λ x. any_below (λ k. test k x) n) xs, few n, count_any test most xs few n)

at_most : (a b : Bool) → (a ≡ true → b ≡ true) → cond a 1 0 ≤ cond b 1 0
at_most true b h = subst (λ c. 1 ≤ cond c 1 0) (sym (h refl)) (omega arith)
at_most false b h = omega arith

-- where each element that passes belongs to one of the other list that passes, no more pass
pub count_zip : {A B : Type 0} (R : A → B → Type 0) (p : A → Bool) (q : B → Bool) → ((a : A) (b : B) → R a b → p a ≡ true → q b ≡ true) → (xs : List A) (ys : List B) → AllZip R xs ys → count_by p xs ≤ count_by q ys
count_zip R p q keeps [] [] zip = omega arith
count_zip R p q keeps [] (y ∷ ys) zip = absurd zip
count_zip R p q keeps (x ∷ xs) [] zip = absurd zip
count_zip R p q keeps (x ∷ xs) (y ∷ ys) zip =
    omega (arith, count-cons p x xs, count-cons q y ys, at_most (p x) (q y) (keeps x y zip.0), count_zip R p q keeps xs ys zip.1)
