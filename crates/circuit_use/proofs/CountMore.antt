-- The count of one more table.
use Rattle.circuit_use.proofs.Prelude.{ℕ, ◌≡◌, ◌+◌, ◌∙◌, Bool, true, false, List, count_by, take, sym, ap, Some, slice_get, count_by_more_no, count_by_more_yes, get_or_from_slice_get, slice_get_within, LookupTable}

pub count_yes : (p : LookupTable → Bool) (tables : List LookupTable) (place : ℕ) (table : LookupTable) (count : ℕ) → slice_get tables place ≡ Some table → p table ≡ true
    → count ≡ count_by p (take place tables) → count + 1 ≡ count_by p (take (place + 1) tables)
count_yes p tables place table count here is was =
    ap (λ n. n + 1) was
    ∙ sym (count_by_more_yes p tables place table (slice_get_within tables place table here) (ap p (get_or_from_slice_get tables place table table here) ∙ is))

pub count_no : (p : LookupTable → Bool) (tables : List LookupTable) (place : ℕ) (table : LookupTable) (count : ℕ) → slice_get tables place ≡ Some table → p table ≡ false
    → count ≡ count_by p (take place tables) → count ≡ count_by p (take (place + 1) tables)
count_no p tables place table count here is was =
    was ∙ sym (count_by_more_no p tables place table (slice_get_within tables place table here) (ap p (get_or_from_slice_get tables place table table here) ∙ is))
