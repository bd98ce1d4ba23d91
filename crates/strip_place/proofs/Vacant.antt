-- The free sites among those of a kind.
use Rattle.strip_place.proofs.Prelude.{ℕ, zero, suc, ◌≡◌, ◌≢◌, ◌+◌, ◌<◌, ◌≤◌, ◌⊎◌, inl, inr, true, false, not, cond, ◌||◌, List, [], ◌∷◌, ◌++◌, Some, nat_eq, find, refl, arith, range_with_len, nat_tests, list_any-append, is_among}

-- the number of free ones among `count` sites from the first one on
abbrev pub free_count : List ℕ → ℕ → ℕ → ℕ
free_count taken start zero = 0
free_count taken start (suc count) = cond {A = ℕ} (is_among taken start) 0 1 + free_count taken (start + 1) count

pub among_push : (taken : List ℕ) (site other : ℕ) → is_among (taken ++ site ∷ []) other ≡ (is_among taken other || (nat_eq other site || false))
among_push taken site other = list_any-append (nat_eq other) taken (site ∷ [])

pub among_last : (taken : List ℕ) (site : ℕ) → is_among (taken ++ site ∷ []) site ≡ true
among_last taken site = grind (arith, nat_tests, among_push taken site site)

pub among_before : (taken : List ℕ) (site other : ℕ) → is_among taken other ≡ true → is_among (taken ++ site ∷ []) other ≡ true
among_before taken site other is = grind (arith, nat_tests, among_push taken site other, is)

pub among_other : (taken : List ℕ) (site other : ℕ) → other ≢ site → is_among (taken ++ site ∷ []) other ≡ is_among taken other
among_other taken site other differs = grind (arith, nat_tests, among_push taken site other, differs)

-- taking a site outside the range takes none of it
pub free_past : (taken : List ℕ) (site start count : ℕ) → (site < start) ⊎ (start + count ≤ site) → free_count (taken ++ site ∷ []) start count ≡ free_count taken start count
free_past taken site start zero outside = refl
free_past taken site start (suc count) outside =
    let other : start ≢ site = elim outside [ inl before ↦ omega (arith, before) | inr behind ↦ omega (arith, behind) ] in
    let rest = free_past taken site (start + 1) count (elim outside [ inl before ↦ inl (omega (arith, before)) | inr behind ↦ inr (omega (arith, behind)) ]) in
    grind (arith, among_other)

-- taking one more site takes at most one
pub free_less : (taken : List ℕ) (site start count : ℕ) → free_count taken start count ≤ free_count (taken ++ site ∷ []) start count + 1
free_less taken site start zero = omega arith
free_less taken site start (suc count) = grind (arith, free_past, among_other, free_less taken site (start + 1) count)

-- taking a site that is already taken takes none
pub free_same : (taken : List ℕ) (site start count : ℕ) → is_among taken site ≡ true → free_count (taken ++ site ∷ []) start count ≡ free_count taken start count
free_same taken site start zero is = refl
free_same taken site start (suc count) is = grind (arith, among_last, among_other, free_same taken site (start + 1) count is)

-- if some are free, the least of them is found
pub record IsLeast (taken : List ℕ) (start count site : ℕ) : Type 0 where
  pub found : find (λ s. not (is_among taken s)) (range_with_len start count) ≡ Some site
  pub free : is_among taken site ≡ false
  pub from : start ≤ site
  pub below : site < start + count
  pub least : (other : ℕ) → start ≤ other → other < site → is_among taken other ≡ true

pub least_found : (taken : List ℕ) (start count : ℕ) → 1 ≤ free_count taken start count → (site : ℕ) × IsLeast taken start count site
least_found taken start zero some = absurd (omega (arith, some))
least_found taken start (suc count) some = grind (arith, least_found taken (start + 1) count)

-- if nothing is taken, all are free
pub all_free : (start count : ℕ) → free_count [] start count ≡ count
all_free start zero = refl
all_free start (suc count) = omega (arith, all_free (start + 1) count)
