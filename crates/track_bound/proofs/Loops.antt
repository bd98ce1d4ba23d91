-- The loops over nets and over columns.
use Rattle.track_bound.proofs.Prelude.{ℕ, ◌≡◌, ◌+◌, ◌-◌, ◌<◌, ◌≤◌, Bool, cond, List, Some, get_or, take, inl, inr, arith, ap, sym, ◌∙◌, count_by, slice_get, cases_eq, sum_by_more, get_or_from_slice_get, slice_get_within, PackedCircuit, Place, IsBusiest, crossing_count, Crossing}

-- 1 for an element that passes
abbrev pub one_if : Bool → ℕ
one_if passes = cond passes 1 0

-- one more element
pub counted : {X : Type 0} (test : X → Bool) (xs : List X) (i : ℕ) (x : X) (passes : Bool) (old new : ℕ) → slice_get xs i ≡ Some x → passes ≡ test x → old ≡ count_by test (take i xs) → new ≡ old + one_if passes → new ≡ count_by test (take (i + 1) xs)
counted test xs i x passes old new at is before step =
    let more : count_by test (take (i + 1) xs) ≡ count_by test (take i xs) + one_if (test (get_or xs i x)) = sum_by_more (λ y. cond (test y) 1 0) xs i x (slice_get_within xs i x at) in
    let here : one_if passes ≡ one_if (test (get_or xs i x)) = ap one_if (is ∙ ap test (sym (get_or_from_slice_get xs i x x at))) in
    omega (arith, more, here, before, step)

module _ (packed : PackedCircuit) (places : List Place) (column : ℕ) (old new : Crossing) (before : IsBusiest packed places (column - 1) old) (is : new ≡ record { column = column; nets = crossing_count packed places column }) where
  nets_are : new.nets ≡ crossing_count packed places column
  nets_are = ap (λ (c : Crossing). c.nets) is

  at : new.column ≡ column
  at = ap (λ (c : Crossing). c.column) is

  -- more nets cross the next column
  pub takes : old.nets < new.nets → IsBusiest packed places (column + 1 - 1) new
  takes greater = record {
    low = omega (arith, at, before.low, before.high);
    high = omega (arith, at);
    nets = nets_are ∙ sym (ap (crossing_count packed places) at);
    most = λ k low high. elim (cases_eq k column) [
      | inl e ↦ omega (arith, ap (crossing_count packed places) e, nets_are)
      | inr other ↦ omega (arith, greater, before.most k low (omega (arith, high, other)))
    ];
    first = λ k low less. omega (arith, greater, before.most k low (omega (arith, less, at)));
  }

  -- no more nets cross it
  pub keeps : new.nets ≤ old.nets → IsBusiest packed places (column + 1 - 1) old
  keeps few = record {
    low = before.low;
    high = omega (arith, before.high);
    nets = before.nets;
    most = λ k low high. elim (cases_eq k column) [
      | inl e ↦ omega (arith, ap (crossing_count packed places) e, nets_are, few)
      | inr other ↦ before.most k low (omega (arith, high, other))
    ];
    first = before.first;
  }
