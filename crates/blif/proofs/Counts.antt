-- The number of occurrences of a name or a number in a list.
use Rattle.blif.proofs.Prelude.{◌≡◌, ◌≢◌, ℕ, ◌+◌, ◌≤◌, Bool, true, false, ◌&&◌, ◌||◌, cond, nat_eq, List, [], ◌∷◌, ◌++◌, All, AllPairs, map, filter, get_or, if◌then◌else◌, refl, ap, ◌∙◌, append_assoc, arith, eq-eqb, count_by, flat_map, list_any, list_all, bytes_eq, append-nil, map-append, All-nil, All-cons, AllPairs-cons, sum_by-append, Decides-eqb, bytes_eq-Decides, has_name, number_of, with_name, with_names, repeats}
use Rattle.blif.proofs.Named.{and_left, and_right, name_at}
use Rattle.blif.proofs.Faultless.{nil_left, nil_right}

-- the number of occurrences of the name among the names
abbrev pub times : List ℕ → List (List ℕ) → ℕ
times name names = count_by (bytes_eq name) names

-- the number of occurrences of the number among the numbers
abbrev pub count_of : ℕ → List ℕ → ℕ
count_of n numbers = count_by (nat_eq n) numbers

pub count_by-append : {X : Type 0} (p : X → Bool) (xs ys : List X) → count_by p (xs ++ ys) ≡ count_by p xs + count_by p ys
count_by-append p xs ys = sum_by-append (λ x. cond (p x) 1 0) xs ys

count_by-cons : {X : Type 0} (p : X → Bool) (x : X) (xs : List X) (b : Bool) → p x ≡ b → count_by p (x ∷ xs) ≡ cond b 1 0 + count_by p xs
count_by-cons p x xs b e = count_by-append p (x ∷ []) xs ∙ ap (λ c. 0 + cond c 1 0 + count_by p xs) e ∙ ap (λ n. n + count_by p xs) (omega arith)

-- an element that passes is counted, and if one is counted some element passes
pub counted_if_there : {X : Type 0} (p : X → Bool) (xs : List X) → list_any p xs ≡ true → 1 ≤ count_by p xs
counted_if_there p [] h = absurd cc
counted_if_there p (x ∷ xs) h = by (p x) refl h (λ there. counted_if_there p xs there)
  where
    by : (b : Bool) → p x ≡ b → (b || list_any p xs) ≡ true → (list_any p xs ≡ true → 1 ≤ count_by p xs) → 1 ≤ count_by p (x ∷ xs)
    by true e there rest = omega (arith, count_by-cons p x xs true e)
    by false e there rest = omega (arith, count_by-cons p x xs false e, rest there)

pub there_if_counted : {X : Type 0} (p : X → Bool) (xs : List X) → 1 ≤ count_by p xs → list_any p xs ≡ true
there_if_counted p [] h = absurd (omega (arith, h))
there_if_counted p (x ∷ xs) h = by (p x) refl (λ counted. there_if_counted p xs counted)
  where
    by : (b : Bool) → p x ≡ b → (1 ≤ count_by p xs → list_any p xs ≡ true) → (b || list_any p xs) ≡ true
    by true e rest = refl
    by false e rest = rest (omega (arith, count_by-cons p x xs false e, h))

-- a name that doesn't occur is counted 0 times
pub none_counted : (names : List (List ℕ)) (name : List ℕ) → has_name names name ≡ false → times name names ≡ 0
none_counted [] name h = refl
none_counted (x ∷ names) name h = by (bytes_eq name x) refl h (λ rest. none_counted names name rest)
  where
    by : (b : Bool) → bytes_eq name x ≡ b → (b || has_name names name) ≡ false → (has_name names name ≡ false → times name names ≡ 0) → times name (x ∷ names) ≡ 0
    by true e there rest = absurd cc
    by false e there rest = omega (arith, count_by-cons (bytes_eq name) x names false e, rest there)

-- one more name, which doesn't occur yet
once_with : (name : List ℕ) (before after : List (List ℕ)) (added : List ℕ) → has_name before added ≡ false → has_name after added ≡ false → times name (before ++ after) ≤ 1 → times name ((before ++ added ∷ []) ++ after) ≤ 1
once_with name before after added free_before free_after once = by (bytes_eq name added) refl
  where
    total : times name ((before ++ added ∷ []) ++ after) ≡ times name before + times name (added ∷ []) + times name after
    total = count_by-append (bytes_eq name) (before ++ added ∷ []) after ∙ ap (λ n. n + times name after) (count_by-append (bytes_eq name) before (added ∷ []))

    by : (b : Bool) → bytes_eq name added ≡ b → times name ((before ++ added ∷ []) ++ after) ≤ 1
    by true e =
        let same : name ≡ added = (bytes_eq-Decides name added).0 e in
        let none_before : times name before ≡ 0 = none_counted before name (ap (has_name before) same ∙ free_before) in
        let none_after : times name after ≡ 0 = none_counted after name (ap (has_name after) same ∙ free_after) in
        omega (arith, total, count_by-cons (bytes_eq name) added [] true e)
    by false e =
        omega (arith, total, count_by-cons (bytes_eq name) added [] false e, count_by-append (bytes_eq name) before after)

free_if : {X : Type 0} (b : Bool) (x : X) → (if b then x ∷ [] else []) ≡ [] → b ≡ false
free_if b x h = grind arith

-- names without repeats occur at most once
pub once_more : (name : List ℕ) (taken names : List (List ℕ)) → repeats taken names ≡ [] → times name taken ≤ 1 → times name (taken ++ names) ≤ 1
once_more name taken [] h once = rw append-nil once
once_more name taken (added ∷ names) h once =
    let free = free_if (has_name taken added) added (nil_left _ _ h) in
    let kept : times name (taken ++ []) ≤ 1 = rw append-nil once in
    let grown : times name (taken ++ added ∷ []) ≤ 1 = rw append-nil at (once_with name taken [] added free refl kept) in
    let all = once_more name (taken ++ added ∷ []) names (nil_right _ _ h) grown in
    rw append_assoc at all

-- names that are added to a set and don't occur in the list after it occur at most once
pub once_in_set : (name : List ℕ) (set after names : List (List ℕ)) → filter (has_name after) names ≡ [] → times name (set ++ after) ≤ 1 → times name (with_names set names ++ after) ≤ 1
once_in_set name set after [] h once = once
once_in_set name set after (added ∷ names) h once =
    by (has_name after added) refl h (λ (grown : List (List ℕ)). once_in_set name grown after names)
  where
    grows : (b : Bool) → has_name set added ≡ b → has_name after added ≡ false → times name ((if b then set else set ++ added ∷ []) ++ after) ≤ 1
    grows true e free = once
    grows false e free = once_with name set after added e free once

    by : (b : Bool) → has_name after added ≡ b → cond b (added ∷ filter (has_name after) names) (filter (has_name after) names) ≡ [] → ((grown : List (List ℕ)) → filter (has_name after) names ≡ [] → times name (grown ++ after) ≤ 1 → times name (with_names grown names ++ after) ≤ 1) → times name (with_names (with_name set added) names ++ after) ≤ 1
    by true e none rest = absurd cc
    by false e none rest = rest (with_name set added) none (grows (has_name set added) refl e)

-- if no element passes both tests, no element that passes the first passes the second
pub none_of_filtered : {X : Type 0} (p q : X → Bool) (xs : List X) → filter (λ x. p x && q x) xs ≡ [] → filter q (filter p xs) ≡ []
none_of_filtered p q [] h = refl
none_of_filtered p q (x ∷ xs) h = by (p x) (q x) refl h (λ rest. none_of_filtered p q xs rest)
  where
    by : (b c : Bool) → q x ≡ c → cond (b && c) (x ∷ filter (λ y. p y && q y) xs) (filter (λ y. p y && q y) xs) ≡ [] → (filter (λ y. p y && q y) xs ≡ [] → filter q (filter p xs) ≡ []) → filter q (cond b (x ∷ filter p xs) (filter p xs)) ≡ []
    by false c e none rest = rest none
    by true false e none rest = ap (λ d. cond d (x ∷ filter q (filter p xs)) (filter q (filter p xs))) e ∙ rest none
    by true true e none rest = absurd cc

-- numbers that each occur at most once are different
none_there : (x : ℕ) (xs : List ℕ) → count_of x xs ≡ 0 → All (λ y. x ≢ y) xs
none_there x [] h = All-nil _
none_there x (y ∷ ys) h =
    All-cons (λ z. x ≢ z) y ys
    (λ same. let e : nat_eq x y ≡ true = eq-eqb x y same in absurd (omega (arith, count_by-cons (nat_eq x) y ys true e, h)))
    (none_there x ys (omega (arith, h, count_by-cons (nat_eq x) y ys (nat_eq x y) refl)))

pub different : (xs : List ℕ) → ((n : ℕ) → count_of n xs ≤ 1) → AllPairs (λ x y. x ≢ y) xs
different [] once = λ i j d before within. absurd (omega arith)
different (x ∷ xs) once =
    let e : nat_eq x x ≡ true = eq-eqb x x refl in
    AllPairs-cons (λ y z. y ≢ z) x xs (none_there x xs (omega (arith, once x, count_by-cons (nat_eq x) x xs true e)))
    (different xs (λ n. omega (arith, once n, count_by-cons (nat_eq n) x xs (nat_eq n x) refl)))

module _ (nets : List (List ℕ)) where
  -- the number of a net among the names' numbers belongs to the name of the net
  pub numbers_counted : (n : ℕ) (names : List (List ℕ)) → list_all (has_name nets) names ≡ true → count_of n (map (number_of nets) names) ≤ times (get_or nets n []) names
  numbers_counted n [] h = omega arith
  numbers_counted n (name ∷ names) h = by (nat_eq n (number_of nets name)) refl (numbers_counted n names (and_right _ _ h))
    where
      by : (b : Bool) → nat_eq n (number_of nets name) ≡ b → count_of n (map (number_of nets) names) ≤ times (get_or nets n []) names → count_of n (map (number_of nets) (name ∷ names)) ≤ times (get_or nets n []) (name ∷ names)
      by true e rest =
          let at : n ≡ number_of nets name = (Decides-eqb n (number_of nets name)).0 e in
          let is : get_or nets n [] ≡ name = ap (λ k. get_or nets k []) at ∙ name_at nets name (and_left _ _ h) in
          let same : bytes_eq (get_or nets n []) name ≡ true = (bytes_eq-Decides (get_or nets n []) name).1 is in
          omega (arith, count_by-cons (nat_eq n) (number_of nets name) (map (number_of nets) names) true e, count_by-cons (bytes_eq (get_or nets n [])) name names true same, rest)
      by false e rest = omega (arith, count_by-cons (nat_eq n) (number_of nets name) (map (number_of nets) names) false e, count_by-cons (bytes_eq (get_or nets n [])) name names _ refl, rest)

  -- a name's number occurs at least as often as the name
  pub names_counted : (name : List ℕ) (names : List (List ℕ)) → times name names ≤ count_of (number_of nets name) (map (number_of nets) names)
  names_counted name [] = omega arith
  names_counted name (other ∷ names) = by (bytes_eq name other) refl (names_counted name names)
    where
      by : (b : Bool) → bytes_eq name other ≡ b → times name names ≤ count_of (number_of nets name) (map (number_of nets) names) → times name (other ∷ names) ≤ count_of (number_of nets name) (map (number_of nets) (other ∷ names))
      by true e rest =
          let same : nat_eq (number_of nets name) (number_of nets other) ≡ true = eq-eqb _ _ (ap (number_of nets) ((bytes_eq-Decides name other).0 e)) in
          omega (arith, count_by-cons (bytes_eq name) other names true e, count_by-cons (nat_eq (number_of nets name)) (number_of nets other) (map (number_of nets) names) true same, rest)
      by false e rest = omega (arith, count_by-cons (bytes_eq name) other names false e, count_by-cons (nat_eq (number_of nets name)) (number_of nets other) (map (number_of nets) names) _ refl, rest)

-- the numbers that one more line adds
pub counted_more : {X A : Type 0} (p : ℕ → Bool) (f : A → ℕ) (g : X → List A) (x : X) (xs : List X) → count_by p (map f (flat_map g (x ∷ xs))) ≡ count_by p (map f (g x)) + count_by p (map f (flat_map g xs))
counted_more p f g x xs = ap (count_by p) (map-append f (g x) (flat_map g xs)) ∙ count_by-append p (map f (g x)) (map f (flat_map g xs))
