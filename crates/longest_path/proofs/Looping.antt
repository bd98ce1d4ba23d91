-- A loop, found by going back until a net comes again.
use Rattle.longest_path.proofs.Prelude.{ℕ, ◌≡◌, ◌+◌, ◌<◌, ◌≤◌, ◌∙◌, Bool, true, false, List, [], ◌∷◌, ◌++◌, length, get_or, drop, eqb, ◌||◌, sym, refl, ap, subst, suc, arith, inl, inr, All, AllByRecursion, IsDistinct, list_any, eqb_tells, cases_lt, drop-append-le, get_or_append_left, length-drop, All-get_or, All-tail, length-le_from_distinct_below, drop-append_seam, get_or-append_seam, LookupTable, StepBack, IsLasting, IsMarked, IsMarkedBack, IsMissing, IsPlaceOf, HasLoop, IsLoop, IsThrough}
use Rattle.longest_path.proofs.Marks.{mark_within}
use Rattle.longest_path.proofs.Tracing.{longer, not_yet}

-- ---- nets that differ

pub one_longer : (xs : List ℕ) (x step : ℕ) → length xs ≡ step → length (xs ++ x ∷ []) ≡ step + 1
one_longer [] x step long = ap (λ n. n + 1) long
one_longer (first ∷ xs) x step long = grind (arith, one_longer xs x (length xs) refl)

pub differ_none : IsDistinct eqb []
unfolding IsDistinct
differ_none = tt

missing_rest : (other net : ℕ) (nets : List ℕ) → IsMissing (other ∷ nets) net → IsMissing nets net
missing_rest other net nets missing k within is = missing (suc k) (omega arith) is

apart_more : (other net : ℕ) (nets : List ℕ) → AllByRecursion (λ y. eqb other y ≡ false) nets → eqb other net ≡ false → AllByRecursion (λ y. eqb other y ≡ false) (nets ++ net ∷ [])
apart_more other net [] apart off = (off, tt)
apart_more other net (first ∷ nets) apart off = (apart.0, apart_more other net nets apart.1 off)

-- one more net that is not among those that differ
pub differ_more : (nets : List ℕ) (net : ℕ) → IsDistinct eqb nets → IsMissing nets net → IsDistinct eqb (nets ++ net ∷ [])
unfolding IsDistinct
differ_more [] net differ missing = (tt, tt)
differ_more (other ∷ nets) net differ missing = (
  apart_more other net nets differ.0
      (elim (eqb_tells other net) [
        | inl at ↦ absurd (missing 0 (omega arith) at.1)
        | inr off ↦ off.0
      ]),
  differ_more nets net differ.1 (missing_rest other net nets missing),
)

among_marked : (marks : List Bool) (nets : List ℕ) → All (IsMarked marks) nets → (q : ℕ) → list_any (eqb q) nets ≡ true → q < length marks
among_marked marks [] all q h = absurd (grind arith)
among_marked marks (net ∷ nets) all q h =
    elim (eqb_tells q net) [
      | inl at ↦ subst (λ n. n < length marks) (sym at.1) (mark_within marks net (All-get_or (IsMarked marks) (net ∷ nets) 0 0 (omega arith) all))
      | inr off ↦ among_marked marks nets (All-tail (IsMarked marks) net nets all) q (sym (ap (λ b. b || list_any (eqb q) nets) off.0) ∙ h)
    ]

-- marked nets that differ are not more than there are nets
pub not_more : (marks : List Bool) (nets : List ℕ) → All (IsMarked marks) nets → IsDistinct eqb nets → length nets ≤ length marks
not_more marks nets all differ = length-le_from_distinct_below nets (length marks) differ (among_marked marks nets all)

-- ---- the ways between them

-- from the net before this one ways lead to all nets that were passed
pub ways_more : (tables : List LookupTable) (marks : List Bool) (nets numbers : List ℕ) (step net : ℕ) (back : StepBack) → length nets ≡ step → length numbers ≡ step → IsMarkedBack tables marks net back
    → ((k : ℕ) → k < step → IsThrough tables net (drop k numbers) (get_or nets k 0))
    → (k : ℕ) → k < step + 1 → IsThrough tables back.net (drop k (numbers ++ back.table ∷ [])) (get_or (nets ++ net ∷ []) k 0)
ways_more tables marks nets numbers step net back nets_long numbers_long is ways k few =
    elim (cases_lt k step) [
      | inl low ↦
          let more : IsThrough tables back.net (drop k numbers ++ back.table ∷ []) (get_or nets k 0) = longer tables (drop k numbers) net back.net (get_or nets k 0) back.table is.table (ways k low) is.is is.drives is.among.0 in
          subst (λ n. IsThrough tables back.net (drop k (numbers ++ back.table ∷ [])) n) (sym (get_or_append_left nets (net ∷ []) 0 k (omega arith)))
          (subst (λ xs. IsThrough tables back.net xs (get_or nets k 0)) (sym (drop-append-le k numbers (back.table ∷ []) (omega arith))) more)
      | inr late ↦
          let at_nets : k ≡ length nets = omega arith in
          let at_numbers : k ≡ length numbers = omega arith in
          let one : IsThrough tables back.net (back.table ∷ []) net = longer tables [] net back.net net back.table is.table (not_yet tables net) is.is is.drives is.among.0 in
          subst (λ n. IsThrough tables back.net (drop k (numbers ++ back.table ∷ [])) n) (sym (ap (λ i. get_or (nets ++ net ∷ []) i 0) at_nets ∙ get_or-append_seam nets net [] 0))
          (subst (λ xs. IsThrough tables back.net xs net) (sym (ap (λ i. drop i (numbers ++ back.table ∷ [])) at_numbers ∙ drop-append_seam numbers (back.table ∷ []))) one)
    ]

-- a way from a net that was passed back to it
pub comes_again : (tables : List LookupTable) (nets numbers : List ℕ) (step net place : ℕ) → length nets ≡ step → length numbers ≡ step → IsPlaceOf nets net place
    → ((k : ℕ) → k < step → IsThrough tables net (drop k numbers) (get_or nets k 0)) → IsLoop tables (drop place numbers)
comes_again tables nets numbers step net place nets_long numbers_long is ways = grind (arith, length-drop)

-- if no net is marked, no tables form a loop
pub no_loop_unmarked : (tables : List LookupTable) (marks : List Bool) → IsLasting tables marks → ((net : ℕ) → net < length marks → get_or marks net false ≡ false) → HasLoop tables → ⊥
no_loop_unmarked tables marks lasting none loop =
    let net : ℕ = loop.0 in
    let marked : IsMarked marks net = lasting.loops net (loop.1, loop.2, loop.3) in
    let off : get_or marks net false ≡ false = none net (mark_within marks net marked) in
    absurd (cc)
