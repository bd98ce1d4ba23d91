-- Entries after sorting.
use Rattle.kept_places.proofs.Prelude.{ℕ, ◌≡◌, ◌+◌, ◌<◌, Bool, true, false, T, List, [], length, map, get_or, sym, ap, ◌∙◌, arith, Ordering, Less, is_lt, is_eq, eq_by_cmp, ordering_reverse, IsTrue, IsDistinct, IsPermutation, IsSorted, keys_of, is_sorted, get_or-map, length-map, IsPermutation-map, apart_from_distinct, sorted_from_all_adjacent, BlockKey, key_order, Place, KeptPlace, entries_of, entry_of}
use Rattle.kept_places.specs.contracts.table.KeptPlaceOrd.TheImpl.{cmp-value as place_cmp}
use Rattle.kept_places.proofs.Entries.{is_sorted-from}
use Rattle.kept_places.proofs.Orders.{before, key_total}

only_less : (o : Ordering) → (ordering_reverse o ≡ Less → false ≡ true) → is_eq o ≡ false → o ≡ Less
only_less o back other = grind arith

key_at : (es : List KeptPlace) (i : ℕ) (d : KeptPlace) (k : BlockKey) → i < length es → get_or (keys_of (entries_of es)) i k ≡ (entry_of (get_or es i d)).0
key_at es i d k lt = grind (arith, get_or-map, length-map es entry_of, get_or-map entry_of es i d (entry_of d) lt)

-- sorted entries with different keys are in the order of the keys
in_key_order_by : (es : List KeptPlace) (d : KeptPlace) → IsSorted place_cmp.it es → IsDistinct (eq_by_cmp key_order) (keys_of (entries_of es)) → T (is_sorted key_order (entries_of es))
in_key_order_by es d sorted apart =
    is_sorted-from (entries_of es) (sorted_from_all_adjacent key_total (keys_of (entries_of es)) (entry_of d).0 rising)
  where
    long : length (keys_of (entries_of es)) ≡ length es
    long = length-map (entries_of es) (λ (e : BlockKey × Place). e.0) ∙ length-map es entry_of

    rising : (k : ℕ) → k + 1 < length (keys_of (entries_of es)) → key_order (get_or (keys_of (entries_of es)) k (entry_of d).0) (get_or (keys_of (entries_of es)) (k + 1) (entry_of d).0) ≡ Less
    rising k lt =
        let keys = keys_of (entries_of es) in
        let none = (entry_of d).0 in
        let first = get_or es k d in
        let second = get_or es (k + 1) d in
        let one : get_or keys k none ≡ (entry_of first).0 = key_at es k d none (omega (arith, lt, long)) in
        let two : get_or keys (k + 1) none ≡ (entry_of second).0 = key_at es (k + 1) d none (omega (arith, lt, long)) in
        let differ : is_eq (key_order (get_or keys k none) (get_or keys (k + 1) none)) ≡ false = apart_from_distinct (eq_by_cmp key_order) keys k (k + 1) none apart (omega arith) lt in
        only_less (key_order (get_or keys k none) (get_or keys (k + 1) none)) (λ back.
        (let behind : key_order (get_or keys (k + 1) none) (get_or keys k none) ≡ Less = key_total.antisymm (get_or keys (k + 1) none) (get_or keys k none) ∙ back in
        let lower : key_order (entry_of second).0 (entry_of first).0 ≡ Less = ap (key_order (entry_of second).0) (sym one) ∙ (ap (λ (key : BlockKey). key_order key (get_or keys k none)) (sym two) ∙ behind) in
        sym (sorted k d (omega arith) (omega (arith, lt, long))) ∙ before second first lower)) differ

pub in_key_order : (es : List KeptPlace) → IsSorted place_cmp.it es → IsDistinct (eq_by_cmp key_order) (keys_of (entries_of es)) → IsTrue (is_sorted key_order (entries_of es))
in_key_order es sorted apart = grind (arith, in_key_order_by)
