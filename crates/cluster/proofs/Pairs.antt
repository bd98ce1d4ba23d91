-- Pairs of a list, part by part.
use Rattle.cluster.proofs.Prelude.{suc, List, [], ◌∷◌, ◌++◌, All, get_or, map, arith, AllPairs, All-append, All-cons, All-head, All-nil, All-tail, AllPairs-cons}

pub all_front : {X : Type 0} (P : X → Type 0) (xs ys : List X) → All P (xs ++ ys) → All P xs
all_front P [] ys all = All-nil P
all_front P (x ∷ xs) ys all = All-cons P x xs (All-head P x (xs ++ ys) all) (all_front P xs ys (All-tail P x (xs ++ ys) all))

pub all_back : {X : Type 0} (P : X → Type 0) (xs ys : List X) → All P (xs ++ ys) → All P ys
all_back P [] ys all = all
all_back P (x ∷ xs) ys all = all_back P xs ys (All-tail P x (xs ++ ys) all)

pub pairs_head : {X : Type 0} (R : X → X → Type 0) (x : X) (xs : List X) → AllPairs R (x ∷ xs) → All (R x) xs
pairs_head R x xs pairs k d lt = pairs 0 (suc k) d (omega arith) (omega (arith, lt))

pub pairs_tail : {X : Type 0} (R : X → X → Type 0) (x : X) (xs : List X) → AllPairs R (x ∷ xs) → AllPairs R xs
pairs_tail R x xs pairs i j d before lt = pairs (suc i) (suc j) d (omega (arith, before)) (omega (arith, lt))

pub pairs_nil : {X : Type 0} (R : X → X → Type 0) → AllPairs R []
pairs_nil R i j d before lt = absurd (omega (arith, lt))

pub pairs_back : {X : Type 0} (R : X → X → Type 0) (xs ys : List X) → AllPairs R (xs ++ ys) → AllPairs R ys
pairs_back R [] ys pairs = pairs
pairs_back R (x ∷ xs) ys pairs = pairs_back R xs ys (pairs_tail R x (xs ++ ys) pairs)

pub pairs_front : {X : Type 0} (R : X → X → Type 0) (xs ys : List X) → AllPairs R (xs ++ ys) → AllPairs R xs
pairs_front R [] ys pairs = pairs_nil R
pairs_front R (x ∷ xs) ys pairs = AllPairs-cons R x xs (all_front (R x) xs ys (pairs_head R x (xs ++ ys) pairs)) (pairs_front R xs ys (pairs_tail R x (xs ++ ys) pairs))

-- each element of the front with each that follows the front
pub pairs_across : {X : Type 0} (R : X → X → Type 0) (xs ys : List X) → AllPairs R (xs ++ ys) → All (λ x. All (R x) ys) xs
pairs_across R [] ys pairs = All-nil (λ x. All (R x) ys)
pairs_across R (x ∷ xs) ys pairs = All-cons (λ x. All (R x) ys) x xs (all_back (R x) xs ys (pairs_head R x (xs ++ ys) pairs)) (pairs_across R xs ys (pairs_tail R x (xs ++ ys) pairs))

pub pairs_append : {X : Type 0} (R : X → X → Type 0) (xs ys : List X) → AllPairs R xs → AllPairs R ys → All (λ x. All (R x) ys) xs → AllPairs R (xs ++ ys)
pairs_append R [] ys first second across = second
pairs_append R (x ∷ xs) ys first second across = grind (arith, All-append, pairs_head, All-head, pairs_tail, All-tail, AllPairs-cons R x (xs ++ ys) (All-append (R x) xs ys (pairs_head R x xs first) (All-head (λ x. All (R x) ys) x xs across)) (pairs_append R xs ys (pairs_tail R x xs first) second (All-tail (λ x. All (R x) ys) x xs across)), All-append (R x) xs ys (pairs_head R x xs first) (All-head (λ x. All (R x) ys) x xs across), pairs_head R x xs first, All-head (λ x. All (R x) ys) x xs across, pairs_tail R x xs first, All-tail (λ x. All (R x) ys) x xs across, pairs_append R xs ys (pairs_tail R x xs first) second (All-tail (λ x. All (R x) ys) x xs across))

-- pairs of the images of elements
pub pairs_map : {X Y : Type 0} (R : Y → Y → Type 0) (f : X → Y) (xs : List X) → AllPairs (λ x other. R (f x) (f other)) xs → AllPairs R (map f xs)
pairs_map R f [] pairs = pairs_nil R
pairs_map R f (x ∷ xs) pairs = AllPairs-cons R (f x) (map f xs) (all_map xs (pairs_head (λ x other. R (f x) (f other)) x xs pairs)) (pairs_map R f xs (pairs_tail (λ x other. R (f x) (f other)) x xs pairs))
  where
    all_map : (ys : List _) → All (λ y. R (f x) (f y)) ys → All (R (f x)) (map f ys)
    all_map [] all = All-nil (R (f x))
    all_map (y ∷ ys) all = All-cons (R (f x)) (f y) (map f ys) (All-head (λ y. R (f x) (f y)) y ys all) (all_map ys (All-tail (λ y. R (f x) (f y)) y ys all))

pub pairs_of_map : {X Y : Type 0} (R : Y → Y → Type 0) (f : X → Y) (xs : List X) → AllPairs R (map f xs) → AllPairs (λ x other. R (f x) (f other)) xs
pairs_of_map R f [] pairs = pairs_nil (λ x other. R (f x) (f other))
pairs_of_map R f (x ∷ xs) pairs = AllPairs-cons (λ x other. R (f x) (f other)) x xs (of_map xs (pairs_head R (f x) (map f xs) pairs)) (pairs_of_map R f xs (pairs_tail R (f x) (map f xs) pairs))
  where
    of_map : (ys : List _) → All (R (f x)) (map f ys) → All (λ y. R (f x) (f y)) ys
    of_map [] all = All-nil (λ y. R (f x) (f y))
    of_map (y ∷ ys) all = All-cons (λ y. R (f x) (f y)) y ys (All-head (R (f x)) (f y) (map f ys) all) (of_map ys (All-tail (R (f x)) (f y) (map f ys) all))

-- pairs that are in a stronger relation, from properties of their elements
pub pairs_with : {X : Type 0} (P : X → Type 0) (R S : X → X → Type 0) (xs : List X) → All P xs → AllPairs R xs → ((x other : X) → P x → P other → R x other → S x other) → AllPairs S xs
pairs_with P R S xs all pairs more i j d before lt = more (get_or xs i d) (get_or xs j d) (all i d (omega (arith, before, lt))) (all j d lt) (pairs i j d before lt)
