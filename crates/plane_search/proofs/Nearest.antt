-- The first entry of a heap.
use Rattle.plane_search.proofs.Prelude.{◌≡◌, ℕ, ◌<◌, ◌≤◌, List, [], ◌∷◌, get_or, false, arith, refl, All, IsPermutation, IsUpperBound, nat_cmp, ordering_then, is_lt, MatchOrdering, Ordering, ranked, All-nil, All-cons, All-map, All-from_recursion, All-permutation, IsPermutation-sym, waiting_cmp, open_of, opens_of, Open, Waiting}

-- not less, by the first criterion
not_less : (a b : ℕ) (o p : Ordering) → MatchOrdering o (a < b) (a ≡ b) (b < a) → is_lt (ordering_then o p) ≡ false → b ≤ a
not_less a b o p m e = grind arith

-- If the first entry's key is above the limit, all are.
pub all_above : (limit : ℕ) (first : Waiting) (old new : List Waiting) → IsPermutation old (first ∷ new) → IsUpperBound waiting_cmp first new → limit < first.key.0 → All (λ (item : Open ℕ). limit < item.key) (opens_of old)
all_above limit first old new taken upper l =
    All-map (λ (item : Open ℕ). limit < item.key) open_of old (All-permutation (λ (w : Waiting). limit < w.key.0) (first ∷ new) old (IsPermutation-sym old (first ∷ new) taken)
    (All-cons (λ (w : Waiting). limit < w.key.0) first new l (λ k d b.
    let y = get_or new k d in
    let e = All-from_recursion (λ (w : Waiting). is_lt (waiting_cmp first w) ≡ false) new upper k d b in
    let low = not_less y.key.0 first.key.0 (nat_cmp y.key.0 first.key.0) (ordering_then (nat_cmp first.cost y.cost) (nat_cmp first.place y.place)) (ranked y.key.0 first.key.0 (nat_cmp y.key.0 first.key.0) refl) e in
    omega (arith, l, low))))

pub none_above : (limit : ℕ) (waiting : List Waiting) → waiting ≡ [] → All (λ (item : Open ℕ). limit < item.key) (opens_of waiting)
none_above limit waiting none = rw none (All-nil (λ (item : Open ℕ). limit < item.key))
