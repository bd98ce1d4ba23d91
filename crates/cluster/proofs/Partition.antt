-- Each BLE is in exactly one cluster.
use Rattle.cluster.proofs.Prelude.{◌≡◌, ℕ, suc, zero, ◌+◌, ◌<◌, ◌≤◌, Bool, true, false, not, ◌||◌, ◌==◌, List, [], ◌∷◌, ◌++◌, All, None, filter, length, refl, ap, ◌∙◌, ◌⊎◌, inl, inr, arith, concat, list_any, range_with_len, append-nil, concat-append, All-nil, All-cons, All-head, All-tail, All-append, All-weaker, filter_passes, nat_tests, Arch, IsOnce, has, LogicElement, clusters_after, elements_at, fits_in_cluster, free_of, unfit_among, with_cluster, has-append}
use Rattle.cluster.proofs.Legal.{IsLegal, cluster_legal}
use Rattle.cluster.proofs.Members.{free_lawful}
use Rattle.cluster.proofs.Steps.{Going, free_after, going_first, going_on, step_idle}

-- a number is in the joined lists if and only if it is in some list
has-concat : (lists : List (List ℕ)) (number : ℕ) → has (concat lists) number ≡ list_any (λ list. has list number) lists
has-concat [] number = refl
has-concat (list ∷ lists) number = has-append list (concat lists) number ∙ ap (λ (b : Bool). has list number || b) (has-concat lists number)

-- if none of the others is in a list, none of them is its first number
apart_first : (number : ℕ) (numbers others : List ℕ) → All (λ other. has (number ∷ numbers) other ≡ false) others → has others number ≡ false
apart_first number numbers [] apart = refl
apart_first number numbers (other ∷ others) apart =
    let P : ℕ → Type 0 = λ other. has (number ∷ numbers) other ≡ false in
    grind (arith, All-head, apart_first number numbers others (All-tail P other others apart))

apart_rest : (number : ℕ) (numbers others : List ℕ) → All (λ other. has (number ∷ numbers) other ≡ false) others → All (λ other. has numbers other ≡ false) others
apart_rest number numbers others apart = All-weaker (λ other. has (number ∷ numbers) other ≡ false) (λ other. has numbers other ≡ false) (λ other h. grind (arith, h)) others apart

-- two lists without repeats and without a common number
once-append : (numbers others : List ℕ) → IsOnce numbers → IsOnce others → All (λ other. has numbers other ≡ false) others → IsOnce (numbers ++ others)
once-append [] others once also apart = also
once-append (number ∷ numbers) others once also apart = grind (arith, has-append, apart_first number numbers others apart, once-append numbers others once.1 also (apart_rest number numbers others apart))

-- the BLEs in the clusters so far occur once, and each cluster fits
pub record ArePacked (arch : Arch) (elements : List LogicElement) (clusters : List (List ℕ)) : Type 0 where
  pub once : IsOnce (concat clusters)
  pub within : All (λ number. number < length elements) (concat clusters)
  pub fit : All (λ members. fits_in_cluster arch (elements_at elements members) ≡ true) clusters

module _ (arch : Arch) (elements : List LogicElement) (fit : unfit_among arch elements ≡ None) where
  -- a free BLE is not in a cluster
  all_free : (clusters : List (List ℕ)) → All (λ number. (has (concat clusters) number ≡ false) × (number < length elements)) (free_of elements clusters)
  all_free clusters = grind (arith, filter_passes, has-concat, free_lawful)

  one_more : (clusters : List (List ℕ)) (cluster : List ℕ) → ArePacked arch elements clusters → IsLegal arch elements (λ number. (has (concat clusters) number ≡ false) × (number < length elements)) cluster → ArePacked arch elements (with_cluster clusters cluster)
  one_more clusters [] packed legal = packed
  one_more clusters (seed ∷ others) packed legal =
      let cluster = seed ∷ others in
      let joined : concat (clusters ++ cluster ∷ []) ≡ concat clusters ++ cluster = concat-append clusters (cluster ∷ []) ∙ ap (λ last. concat clusters ++ last) (append-nil cluster) in
      record {
        once = rw joined (once-append (concat clusters) cluster packed.once legal.once (λ k d lt. (legal.all k d lt).0));
        within = rw joined (All-append (λ number. number < length elements) (concat clusters) cluster packed.within (λ k d lt. (legal.all k d lt).1));
        fit = All-append (λ members. fits_in_cluster arch (elements_at elements members) ≡ true) clusters (cluster ∷ []) packed.fit (All-cons (λ members. fits_in_cluster arch (elements_at elements members) ≡ true) cluster [] legal.fits (All-nil (λ members. fits_in_cluster arch (elements_at elements members) ≡ true)));
      }

  pub all_packed : (steps : ℕ) → ArePacked arch elements (clusters_after arch elements steps)
  unfolding clusters_after
  all_packed zero = record { once = tt; within = All-nil (λ number. number < length elements); fit = All-nil (λ members. fits_in_cluster arch (elements_at elements members) ≡ true) }
  all_packed (suc steps) = search (one_more, cluster_legal, all_free, free_lawful, all_packed steps, arith)

module _ (arch : Arch) (elements : List LogicElement) where
  -- after this number of steps no BLE is free, or each step took a BLE
  free_or_going : (steps : ℕ) → (free_after arch elements steps ≡ []) ⊎ Going arch elements steps
  free_or_going zero = inr (going_first arch elements)
  free_or_going (suc steps) = by (free_or_going steps) (free_after arch elements steps) refl
    where
      by : (free_after arch elements steps ≡ []) ⊎ Going arch elements steps → (free : List ℕ) → free_after arch elements steps ≡ free → (free_after arch elements (suc steps) ≡ []) ⊎ Going arch elements (suc steps)
      by (inl none) free is = inl (ap (free_of elements) (step_idle arch elements steps none) ∙ none)
      by (inr going) [] is = inl (ap (free_of elements) (step_idle arch elements steps is) ∙ is)
      by (inr going) (number ∷ free) is = inr (going_on arch elements steps number free is going)

  empty : (numbers : List ℕ) → length numbers ≡ 0 → numbers ≡ []
  empty [] none = refl
  empty (number ∷ numbers) none = absurd (omega (arith, none))

  none_free : free_after arch elements (length elements) ≡ []
  none_free = grind (arith, free_or_going, empty)

  -- a number that passes a filter is kept
  has-filter : (test : ℕ → Bool) (numbers : List ℕ) (number : ℕ) → has numbers number ≡ true → test number ≡ true → has (filter test numbers) number ≡ true
  has-filter test [] number h passes = absurd cc
  has-filter test (first ∷ numbers) number h passes = grind (arith, has-filter test numbers number)

  has-range : (start count number : ℕ) → start ≤ number → number < start + count → has (range_with_len start count) number ≡ true
  has-range start zero number low high = absurd (omega (arith, low, high))
  has-range start (suc count) number low high = by (start == number) refl (λ more. has-range (start + 1) count number more (omega (arith, high)))
    where
      by : (b : Bool) → (start == number) ≡ b → (start + 1 ≤ number → has (range_with_len (start + 1) count) number ≡ true) → has (range_with_len start (suc count)) number ≡ true
      by true same rest = grind (arith, same)
      by false other rest = let found = rest (grind (arith, nat_tests, other, low)) in grind (arith, found)

  -- each BLE is in a cluster
  pub all_in : (number : ℕ) → number < length elements → has (concat (clusters_after arch elements (length elements))) number ≡ true
  all_in number small = by (has (concat clusters) number) refl
    where
      clusters : List (List ℕ)
      clusters = clusters_after arch elements (length elements)

      by : (b : Bool) → has (concat clusters) number ≡ b → has (concat (clusters_after arch elements (length elements))) number ≡ true
      by true is = is
      by false is =
          let test : ℕ → Bool = λ number. not (list_any (λ cluster. has cluster number) clusters) in
          let joined = has-concat clusters number in
          let passes : test number ≡ true = grind (arith, is, joined) in
          let found = has-filter test (range_with_len 0 (length elements)) number (has-range 0 (length elements) number (omega arith) (omega (arith, small))) passes in
          let none = ap (λ (numbers : List ℕ). has numbers number) none_free in
          absurd cc
