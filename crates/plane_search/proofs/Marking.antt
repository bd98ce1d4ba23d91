-- Cells of marks, and the costs that they hold.
use Rattle.plane_search.proofs.Prelude.{◌≡◌, ℕ, ◌+◌, ◌-◌, ◌≤◌, List, ◌++◌, map, set, take, replicate, arith, ◌∙◌, ap, All, map-set, All-append, All-map, All-take, All-replicate, costs_of}

module _ {C : Type 0} (number : C → ℕ) where
  -- a cost is written
  pub marked : (top : ℕ) (cells : List C) (place cost : ℕ) (cell : C) → cost ≤ top → number cell ≡ top - cost → costs_of number top (set cells place cell) ≡ set (costs_of number top cells) place cost
  marked top cells place cost cell small e =
      let f : C → ℕ = λ c. top - number c in
      let at : f cell ≡ cost = omega (arith, small, e) in
      map-set f cells place cell ∙ ap (set (map f cells) place) at

  -- the cells of earlier walks hold no cost
  pub all_unmarked : (span top : ℕ) (cells : List C) → All (λ cell. number cell ≤ top) cells → All (λ cost. span ≤ cost) (costs_of number (top + span) cells)
  all_unmarked span top cells low = All-map (λ (cost : ℕ). span ≤ cost) (λ (cell : C). top + span - number cell) cells (λ k d l. omega (arith, low k d l))

  -- more cells, which hold nothing
  pub low_still : (most : ℕ) (cells : List C) (count more : ℕ) (none : C) → number none ≤ most → All (λ cell. number cell ≤ most) cells → All (λ cell. number cell ≤ most) (take count cells ++ replicate more none)
  low_still most cells count more none b low =
      let P : C → Type 0 = λ cell. number cell ≤ most in
      All-append P (take count cells) (replicate more none) (All-take P count cells low) (All-replicate P more none b)
