-- Lists whose members differ.
use Rattle.implements.proofs.Prelude.{get_or, ◌≡◌, ◌≢◌, ℕ, suc, ◌+◌, ◌<◌, ◌≤◌, Bool, true, false, List, [], ◌∷◌, ◌++◌, cond, filter, length, map, sym, ap, refl, ◌∙◌, inl, inr, ◌⊎◌, subst, arith, All, AllPairs, Contains, count_by, flat_map, range_with_len, cases_order, get_or-map, length-map, All-contains, AllPairs-filter, sum_by-append, sum_by-cons, pairs_across, pairs_append, pairs_back, pairs_front, pairs_head, pairs_tail}
use Rattle.implements.proofs.Members.{all_members, from_filter, from_flat_map, in_cases, in_first, in_later, in_none, to_flat_map, to_map}

-- no two of the nets are the same
abbrev pub AreApart : List ℕ → Type 0
AreApart nets = AllPairs (λ net other. net ≢ other) nets

-- ---- counts

pub count-cons : {X : Type 0} (test : X → Bool) (x : X) (xs : List X) → count_by test (x ∷ xs) ≡ cond (test x) 1 0 + count_by test xs
count-cons test x xs = sum_by-cons (λ y. cond (test y) 1 0) x xs

pub count-append : {X : Type 0} (test : X → Bool) (xs ys : List X) → count_by test (xs ++ ys) ≡ count_by test xs + count_by test ys
count-append test xs ys = sum_by-append (λ y. cond (test y) 1 0) xs ys

pub count-yes : {X : Type 0} (test : X → Bool) (x : X) (xs : List X) → test x ≡ true → count_by test (x ∷ xs) ≡ 1 + count_by test xs
count-yes test x xs is = count-cons test x xs ∙ ap {B = ℕ} (λ (b : Bool). cond b 1 0 + count_by test xs) is

pub count-no : {X : Type 0} (test : X → Bool) (x : X) (xs : List X) → test x ≡ false → count_by test (x ∷ xs) ≡ 0 + count_by test xs
count-no test x xs is = count-cons test x xs ∙ ap {B = ℕ} (λ (b : Bool). cond b 1 0 + count_by test xs) is

-- what is in the list, and passes, is counted
pub some_counted : {X : Type 0} (test : X → Bool) (xs : List X) (x : X) → Contains xs x → test x ≡ true → 1 ≤ count_by test xs
some_counted test [] x c passes = absurd (in_none x c)
some_counted test (y ∷ xs) x c passes = elim (in_cases y x xs c) [
  | inl e ↦ (let more = count-yes test y xs (ap test e ∙ passes) in omega (arith, more))
  | inr d ↦ (let rest = some_counted test xs x d passes in let more = count-cons test y xs in omega (arith, rest, more))
]

none_counted : {X : Type 0} (test : X → Bool) (xs : List X) → ((x : X) → Contains xs x → test x ≡ true → ⊥) → count_by test xs ≡ 0
none_counted test [] none = refl
none_counted {X} test (x ∷ xs) none = by (test x) refl (none_counted test xs (λ y c passes. none y (in_later x y xs c) passes))
  where
    by : (b : Bool) → test x ≡ b → count_by test xs ≡ 0 → count_by test (x ∷ xs) ≡ 0
    by true is rest = absurd (none x (in_first x xs) is)
    by false is rest = omega (arith, count-no test x xs is, rest)

-- if no more than one passes, two members that pass are the same
pub same_counted : {X : Type 0} (test : X → Bool) (xs : List X) (x y : X) → count_by test xs ≤ 1 → Contains xs x → Contains xs y → test x ≡ true → test y ≡ true → x ≡ y
same_counted test [] x y few c d one two = absurd (in_none x c)
same_counted {X} test (first ∷ xs) x y few c d one two = by (λ fewer m n. same_counted test xs x y fewer m n one two) (in_cases first x xs c) (in_cases first y xs d)
  where
    later : Contains xs y → test first ≡ true → ⊥
    later more is = let counted = some_counted test xs y more two in let first' = count-yes test first xs is in omega (arith, counted, first', few)

    before : Contains xs x → test first ≡ true → ⊥
    before more is = let counted = some_counted test xs x more one in let first' = count-yes test first xs is in omega (arith, counted, first', few)

    by : (count_by test xs ≤ 1 → Contains xs x → Contains xs y → x ≡ y) → (first ≡ x) ⊎ Contains xs x → (first ≡ y) ⊎ Contains xs y → x ≡ y
    by rest (inl a) (inl b) = sym a ∙ b
    by rest (inl a) (inr m) = absurd (later m (ap test a ∙ one))
    by rest (inr m) (inl b) = absurd (before m (ap test b ∙ two))
    by rest (inr m) (inr n) = let all = count-cons test first xs in rest (omega (arith, all, few)) m n

-- ---- members that differ

pub same_by : {X : Type 0} (f : X → ℕ) (xs : List X) (x y : X) → AreApart (map f xs) → Contains xs x → Contains xs y → f x ≡ f y → x ≡ y
same_by f [] x y apart c d e = absurd (in_none x c)
same_by {X} f (first ∷ xs) x y apart c d e =
    by (λ m n. same_by f xs x y (pairs_tail (λ net other. net ≢ other) (f first) (map f xs) apart) m n e) (in_cases first x xs c) (in_cases first y xs d)
  where
    never : (z : X) → Contains xs z → f first ≡ f z → ⊥
    never z more is = All-contains (λ net. f first ≢ net) (map f xs) (f z) (pairs_head (λ net other. net ≢ other) (f first) (map f xs) apart) (to_map f xs z more) is

    by : (Contains xs x → Contains xs y → x ≡ y) → (first ≡ x) ⊎ Contains xs x → (first ≡ y) ⊎ Contains xs y → x ≡ y
    by rest (inl a) (inl b) = sym a ∙ b
    by rest (inl a) (inr m) = absurd (never y m (ap f a ∙ e))
    by rest (inr m) (inl b) = absurd (never x m (ap f b ∙ sym e))
    by rest (inr m) (inr n) = rest m n

pub never_both : (nets others : List ℕ) (net : ℕ) → AreApart (nets ++ others) → Contains nets net → Contains others net → ⊥
never_both nets others net apart c d =
    let across = All-contains (λ a. All (λ b. a ≢ b) others) nets net (pairs_across (λ net other. net ≢ other) nets others apart) c in
    All-contains (λ b. net ≢ b) others net across d refl

pub apart_at : {X : Type 0} (f : X → ℕ) (xs : List X) (i j : ℕ) (none : X) → AreApart (map f xs) → i < length xs → j < length xs → i ≢ j → f (get_or xs i none) ≢ f (get_or xs j none)
apart_at f xs i j none apart small_i small_j differ same = by (cases_order i j)
  where
    at : (k : ℕ) → k < length xs → get_or (map f xs) k 0 ≡ f (get_or xs k none)
    at k small = get_or-map f xs k none 0 small

    by : (i ≡ j) ⊎ ((i < j) ⊎ (j < i)) → ⊥
    by (inl e) = differ e
    by (inr (inl less)) = let long = length-map xs f in apart i j 0 less (omega (arith, small_j, long)) (at i small_i ∙ same ∙ sym (at j small_j))
    by (inr (inr more)) = let long = length-map xs f in apart j i 0 more (omega (arith, small_i, long)) (at j small_j ∙ sym same ∙ sym (at i small_i))

-- of members that differ by a number, one passes a test that only that number passes
pub one_counted : {X : Type 0} (f : X → ℕ) (test : X → Bool) (number : ℕ) (xs : List X) (x : X) → AreApart (map f xs) → ((y : X) → Contains xs y → test y ≡ true → f y ≡ number) → Contains xs x → test x ≡ true → count_by test xs ≡ 1
one_counted f test number [] x apart only c passes = absurd (in_none x c)
one_counted {X} f test number (first ∷ xs) x apart only c passes =
    by (λ more. one_counted f test number xs x (pairs_tail (λ net other. net ≢ other) (f first) (map f xs) apart) (λ y d. only y (in_later first y xs d)) more passes) (in_cases first x xs c)
  where
    never : (z : X) → Contains xs z → test first ≡ true → test z ≡ true → ⊥
    never z more one two =
        All-contains (λ net. f first ≢ net) (map f xs) (f z) (pairs_head (λ net other. net ≢ other) (f first) (map f xs) apart) (to_map f xs z more)
        (only first (in_first first xs) one ∙ sym (only z (in_later first z xs more) two))

    here : (b : Bool) → test first ≡ b → Contains xs x → count_by test xs ≡ 1 → count_by test (first ∷ xs) ≡ 1
    here true is more rest = absurd (never x more is passes)
    here false is more rest = let all = count-no test first xs is in omega (arith, rest, all)

    by : (Contains xs x → count_by test xs ≡ 1) → (first ≡ x) ⊎ Contains xs x → count_by test (first ∷ xs) ≡ 1
    by rest (inl e) =
        let is = ap test e ∙ passes in
        let none = none_counted test xs (λ z more two. never z more is two) in
        let all = count-yes test first xs is in
        omega (arith, none, all)
    by rest (inr more) = here (test first) refl more (rest more)

-- ---- lists in parts

-- some of each part
pub apart_filtered : {X : Type 0} (f : X → List ℕ) (test : X → ℕ → Bool) (xs : List X) → AreApart (flat_map f xs) → AreApart (flat_map (λ x. filter (test x) (f x)) xs)
apart_filtered f test [] apart = apart
apart_filtered {X} f test (x ∷ xs) apart =
    let R : ℕ → ℕ → Type 0 = λ net other. net ≢ other in
    let rest = flat_map (λ y. filter (test y) (f y)) xs in
    pairs_append R (filter (test x) (f x)) rest
    (AllPairs-filter R (test x) (f x) (pairs_front R (f x) (flat_map f xs) apart))
    (apart_filtered f test xs (pairs_back R (f x) (flat_map f xs) apart))
    (all_members (λ net. All (R net) rest) (filter (test x) (f x)) (λ net c. all_members (R net) rest (λ other d same.
    let q = from_flat_map (λ y. filter (test y) (f y)) xs other d in
    let there = to_flat_map f xs q.0 other q.1 (from_filter (test q.0) (f q.0) other q.2).0 in
    never_both (f x) (flat_map f xs) net apart (from_filter (test x) (f x) net c).0 (subst (λ n. Contains (flat_map f xs) n) (sym same) there))))

-- part by part, by its number
pub by_number : {X Y : Type 0} (f : X → List Y) (g : ℕ → List Y) (start : ℕ) (xs : List X) (none : X) → ((k : ℕ) → k < length xs → g (start + k) ≡ f (get_or xs k none)) → flat_map g (range_with_len start (length xs)) ≡ flat_map f xs
by_number f g start [] none each = refl
by_number {X} {Y} f g start (x ∷ xs) none each =
    let here : start + 0 ≡ start = omega arith in
    let first : g start ≡ f x = sym (ap g here) ∙ each 0 (omega arith) in
    ap (λ (part : List Y). part ++ flat_map g (range_with_len (start + 1) (length xs))) first
    ∙ ap (λ (rest : List Y). f x ++ rest) (by_number f g (start + 1) xs none (λ k small. let next : start + 1 + k ≡ start + suc k = omega arith in ap g next ∙ each (suc k) (omega (arith, small))))
