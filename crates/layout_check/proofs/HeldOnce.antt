-- Numbers that occur just once, and BLEs that hold each table and each latch just once.
use Rattle.layout_check.proofs.Prelude.{◌≡◌, ◌≢◌, ℕ, suc, ◌+◌, ◌<◌, ◌≤◌, Bool, true, ◌==◌, cond, List, [], ◌∷◌, ◌++◌, Option, None, Some, get_or, length, length-append, set, slice_get, take, sym, ap, refl, ◌∙◌, subst, eq-eqb, arith, inl, inr, ◌⊎◌, All, count_by, ForSome, get_or-append_seam, cases_eq, cases_lt, eqb-true, false_from_ne_true, get_or_default, get_or-set_other, get_or-set_same, get_or_append_left, length-set, take_all, count_by_more_no, count_by_more_yes, get_or_from_slice_get, slice_get-get_or, Circuit, Latch, LookupTable, LogicElement, AreBlesOf, holds_latch, holds_table, at_member, all_members, from_get, count-cons, OnceFault, Never, AreHeld, ArePlaces, HoldsLatchIn, HoldsTableIn, IsHeld, IsHeldFault, IsOnceFault, is_number, of_latches, of_tables}
use Rattle.layout_check.specs.declared.once.OnceFault.TheVariants.{Twice}
use Rattle.layout_check.proofs.BlePlaces.{get_some}
use Rattle.layout_check.proofs.HeldParts.{holds_some}

-- ---- where numbers occur

-- the places of the first numbers, each of which occurs once among them
pub record ArePlacesUpTo (numbers : List (Option ℕ)) (count n : ℕ) (places : List (Option ℕ)) : Type 0 where
  pub long : length places ≡ count
  pub none : (k : ℕ) → get_or places k None ≡ None → count_by (is_number k) (take n numbers) ≡ 0
  pub some : (k place : ℕ) → get_or places k None ≡ Some place → (place < n) × (slice_get numbers place ≡ Some (Some k)) × (count_by (is_number k) (take n numbers) ≡ 1)

-- one more, which isn't a number
pub places_same : (numbers : List (Option ℕ)) (count n : ℕ) (places : List (Option ℕ)) (d : Option ℕ) → n < length numbers → get_or numbers n d ≡ None → ArePlacesUpTo numbers count n places → ArePlacesUpTo numbers count (n + 1) places
places_same numbers count n places d small here so = record {
  long = so.long;
  none = λ k e. same k ∙ so.none k e;
  some = λ k place e. let q = so.some k place e in let less = q.0 in (omega (arith, less), q.1, same k ∙ q.2);
}
  where
    is : get_or numbers n None ≡ None
    is = get_or_default numbers n None d small ∙ here

    same : (k : ℕ) → count_by (is_number k) (take (n + 1) numbers) ≡ count_by (is_number k) (take n numbers)
    same k = count_by_more_no (is_number k) numbers n None small (ap (is_number k) is)

-- one more number, which didn't occur yet
pub places_more : (numbers : List (Option ℕ)) (count n : ℕ) (places : List (Option ℕ)) (number : ℕ) (d e : Option ℕ) → n < length numbers → get_or numbers n d ≡ Some number → number < length places → get_or places number e ≡ None → ArePlacesUpTo numbers count n places →
    ArePlacesUpTo numbers count (n + 1) (set places number (Some n))
places_more numbers count n places number d e small here within empty so = record {
  long = length-set places number (Some n) ∙ so.long;
  none = λ k is_none. by_none k (cases_eq k number) is_none;
  some = λ k place is_some. by_some k place (cases_eq k number) is_some;
}
  where
    is : get_or numbers n None ≡ Some number
    is = get_or_default numbers n None d small ∙ here

    free : get_or places number None ≡ None
    free = get_or_default places number None e within ∙ empty

    other_count : (k : ℕ) → k ≢ number → count_by (is_number k) (take (n + 1) numbers) ≡ count_by (is_number k) (take n numbers)
    other_count k differ = count_by_more_no (is_number k) numbers n None small (ap (is_number k) is ∙ false_from_ne_true (number == k) (λ e. differ (sym (eqb-true number k e))))

    by_none : (k : ℕ) → (k ≡ number) ⊎ (k ≢ number) → get_or (set places number (Some n)) k None ≡ None → count_by (is_number k) (take (n + 1) numbers) ≡ 0
    by_none k (inl e) none =
        let it : get_or (set places number (Some n)) k None ≡ Some n = ap (λ j. get_or (set places number (Some n)) j None) e ∙ get_or-set_same places number (Some n) None within in
        absurd cc
    by_none k (inr differ) none = other_count k differ ∙ so.none k (sym (get_or-set_other places number k (Some n) None differ) ∙ none)

    by_some : (k place : ℕ) → (k ≡ number) ⊎ (k ≢ number) → get_or (set places number (Some n)) k None ≡ Some place → (place < n + 1) × (slice_get numbers place ≡ Some (Some k)) × (count_by (is_number k) (take (n + 1) numbers) ≡ 1)
    by_some k place (inl e) some =
        let it : get_or (set places number (Some n)) k None ≡ Some n = ap (λ j. get_or (set places number (Some n)) j None) e ∙ get_or-set_same places number (Some n) None within in
        let at : n ≡ place = cc in
        let before : count_by (is_number k) (take n numbers) ≡ 0 = so.none k (ap (λ j. get_or places j None) e ∙ free) in
        let more = count_by_more_yes (is_number k) numbers n None small (ap (is_number k) is ∙ eq-eqb number k (sym e)) in
        (omega (arith, at), sym (ap (slice_get numbers) at) ∙ slice_get-get_or numbers n None small ∙ ap (λ o. Some o) (is ∙ ap (λ j. Some j) (sym e)), omega (arith, before, more))
    by_some k place (inr differ) some =
        let q = so.some k place (sym (get_or-set_other places number k (Some n) None differ) ∙ some) in
        let less = q.0 in
        (omega (arith, less), q.1, other_count k differ ∙ q.2)

-- a number that occurs again
pub twice_found : (numbers : List (Option ℕ)) (count n : ℕ) (places : List (Option ℕ)) (number earlier : ℕ) (d e : Option ℕ) → ArePlacesUpTo numbers count n places → n < length numbers → get_or numbers n d ≡ Some number → number < length places → get_or places number e ≡ Some earlier →
    IsOnceFault numbers count (Twice number earlier n)
twice_found numbers count n places number earlier d e so small is within there =
    let before = so.some number earlier (get_or_default places number None e within ∙ there) in
    let long = so.long in
    (omega (arith, within, long), before.0, before.1, slice_get-get_or numbers n d small ∙ ap (λ o. Some o) is)

pub places_all : (numbers : List (Option ℕ)) (count n : ℕ) (places : List (Option ℕ)) → length numbers ≤ n → ArePlacesUpTo numbers count n places → ArePlaces numbers places
places_all numbers count n places end so = record {
  none = λ k e. subst (λ xs. count_by (is_number k) xs ≡ 0) (take_all n numbers end) (so.none k e);
  some = λ k place e. let q = so.some k place e in (q.1, subst (λ xs. count_by (is_number k) xs ≡ 1) (take_all n numbers end) q.2);
}

-- a number that has a place is counted once
pub placed_once : (numbers places : List (Option ℕ)) → ArePlaces numbers places → (k : ℕ) → (get_or places k None ≡ None → ⊥) → count_by (is_number k) numbers ≡ 1
placed_once numbers places are k some = by (get_or places k None) refl
  where
    by : (o : Option ℕ) → get_or places k None ≡ o → count_by (is_number k) numbers ≡ 1
    by None e = absurd (some e)
    by (Some place) e = (are.some k place e).1

-- ---- what is said of a copy of the numbers

module _ (numbers slice : List (Option ℕ)) (count len : ℕ) (same : slice ≡ numbers) (long : len ≡ count) where
  pub within_told : All (λ number. ForSome number (λ k. k < count)) numbers → All (λ number. ForSome number (λ k. k < len)) slice
  within_told all = subst (λ n. All (λ number. ForSome number (λ k. k < n)) slice) (sym long) (subst (λ xs. All (λ number. ForSome number (λ k. k < count)) xs) (sym same) all)

  pub fault_told : (fault : OnceFault) → IsOnceFault slice len fault → IsOnceFault numbers count fault
  fault_told fault said = subst (λ n. IsOnceFault numbers n fault) long (subst (λ xs. IsOnceFault xs len fault) same said)

  pub counts_told : ((k : ℕ) → k < len → count_by (is_number k) slice ≡ 1) → (k : ℕ) → k < count → count_by (is_number k) numbers ≡ 1
  counts_told counts k small = subst (λ xs. count_by (is_number k) xs ≡ 1) same (counts k (omega (arith, small, long)))

pub once_told : (numbers places slice : List (Option ℕ)) (count : ℕ) → slice ≡ places → length places ≡ count → ArePlaces numbers places → ((k : ℕ) → k < length slice → get_or slice k None ≡ None → ⊥) → (k : ℕ) → k < count → count_by (is_number k) numbers ≡ 1
once_told numbers places slice count same long are some k small =
    placed_once numbers places are k (subst (λ xs. (j : ℕ) → j < length xs → get_or xs j None ≡ None → ⊥) same some k (omega (arith, small, long)))

-- ---- from numbers to tables and latches

count_same : {X Y : Type 0} (f : X → Bool) (g : Y → Bool) (xs : List X) (ys : List Y) (none : Y) → length ys ≡ length xs → ((k : ℕ) (x : X) → slice_get xs k ≡ Some x → f x ≡ g (get_or ys k none)) → count_by f xs ≡ count_by g ys
count_same f g [] [] none long same = refl
count_same f g [] (y ∷ ys) none long same = absurd (omega (arith, long))
count_same f g (x ∷ xs) [] none long same = absurd (omega (arith, long))
count_same f g (x ∷ xs) (y ∷ ys) none long same =
    let rest = count_same f g xs ys none (omega (arith, long)) (λ k z at. same (suc k) z at) in
    let first = same 0 x refl in
    let left = count-cons f x xs in
    let right = count-cons g y ys in
    let equal : cond {A = ℕ} (f x) 1 0 ≡ cond {A = ℕ} (g y) 1 0 = ap (λ b. cond {A = ℕ} b 1 0) first in
    omega (arith, rest, left, right, equal)

-- these are the tables and latches that the first BLEs hold
pub record AreHeldUpTo (circuit : Circuit) (elements : List LogicElement) (n : ℕ) (held behind : List (Option ℕ)) : Type 0 where
  pub long : length held ≡ n
  pub also : length behind ≡ n
  pub each : (k : ℕ) (element : LogicElement) → k < n → slice_get elements k ≡ Some element → IsHeld circuit element (get_or held k None) (get_or behind k None)

pub held_more : (circuit : Circuit) (elements : List LogicElement) (n : ℕ) (held behind : List (Option ℕ)) (element : LogicElement) (table latch : Option ℕ) → slice_get elements n ≡ Some element → IsHeld circuit element table latch →
    AreHeldUpTo circuit elements n held behind → AreHeldUpTo circuit elements (n + 1) (held ++ table ∷ []) (behind ++ latch ∷ [])
held_more circuit elements n held behind element table latch at is so = record {
  long = (let long = so.long in let sum = length-append held (table ∷ []) in omega (arith, long, sum));
  also = (let long = so.also in let sum = length-append behind (latch ∷ []) in omega (arith, long, sum));
  each = λ k other less there. by k other (cases_lt k n) less there;
}
  where
    by : (k : ℕ) (other : LogicElement) → (k < n) ⊎ (n ≤ k) → k < n + 1 → slice_get elements k ≡ Some other → IsHeld circuit other (get_or (held ++ table ∷ []) k None) (get_or (behind ++ latch ∷ []) k None)
    by k other (inl small) less there =
        subst (λ o. IsHeld circuit other o (get_or (behind ++ latch ∷ []) k None)) (sym (get_or_append_left held (table ∷ []) None k (let long = so.long in omega (arith, small, long))))
        (subst (λ o. IsHeld circuit other (get_or held k None) o) (sym (get_or_append_left behind (latch ∷ []) None k (let long = so.also in omega (arith, small, long)))) (so.each k other small there))
    by k other (inr past) less there =
        let e : k ≡ n = omega (arith, past, less) in
        let same : element ≡ other = cc in
        let first : get_or (held ++ table ∷ []) k None ≡ table = ap (λ i. get_or (held ++ table ∷ []) i None) (e ∙ sym so.long) ∙ get_or-append_seam held table [] None in
        let second : get_or (behind ++ latch ∷ []) k None ≡ latch = ap (λ i. get_or (behind ++ latch ∷ []) i None) (e ∙ sym so.also) ∙ get_or-append_seam behind latch [] None in
        subst (λ o. IsHeld circuit other o (get_or (behind ++ latch ∷ []) k None)) (sym first) (subst (λ o. IsHeld circuit other table o) (sym second) (subst (λ b. IsHeld circuit b table latch) same is))

pub held_told : (circuit : Circuit) (elements : List LogicElement) (n : ℕ) (held behind : List (Option ℕ)) (element : LogicElement) (table latch : Option ℕ) (tables latches : List (Option ℕ)) → n < length elements → element ≡ get_or elements n element →
    IsHeld circuit element table latch → tables ≡ held ++ table ∷ [] → latches ≡ behind ++ latch ∷ [] → AreHeldUpTo circuit elements n held behind → AreHeldUpTo circuit elements (n + 1) tables latches
held_told circuit elements n held behind element table latch tables latches small item is first second so =
    subst (λ xs. AreHeldUpTo circuit elements (n + 1) xs latches) (sym first) (subst (λ xs. AreHeldUpTo circuit elements (n + 1) (held ++ table ∷ []) xs) (sym second)
    (held_more circuit elements n held behind element table latch (slice_get-get_or elements n element small ∙ ap (λ e. Some e) (sym item)) is so))

pub held_all : (circuit : Circuit) (elements : List LogicElement) (n : ℕ) (held behind : List (Option ℕ)) → n ≡ length elements → AreHeldUpTo circuit elements n held behind → AreHeld circuit elements held behind
held_all circuit elements n held behind end so = record {
  long = so.long ∙ end;
  also = so.also ∙ end;
  each = λ k element at. so.each k element (let small = (from_get elements k element at).0 in omega (arith, small, end)) at;
}

module _ (circuit : Circuit) (elements : List LogicElement) (held behind : List (Option ℕ)) (are : AreHeld circuit elements held behind) where
  pub table_count : (k : ℕ) (table : LookupTable) → slice_get circuit.tables k ≡ Some table → count_by (λ element. holds_table circuit element table) elements ≡ count_by (is_number k) held
  table_count k table at = count_same (λ element. holds_table circuit element table) (is_number k) elements held None are.long (λ j element there. (are.each j element there).tables k table at)

  pub latch_count : (k : ℕ) (latch : Latch) → slice_get circuit.latches k ≡ Some latch → count_by (λ element. holds_latch circuit element latch) elements ≡ count_by (is_number k) behind
  latch_count k latch at = count_same (λ element. holds_latch circuit element latch) (is_number k) elements behind None are.also (λ j element there. (are.each j element there).latches k latch at)

  pub bles_of_circuit : ((k : ℕ) → k < length circuit.tables → count_by (is_number k) held ≡ 1) → ((k : ℕ) → k < length circuit.latches → count_by (is_number k) behind ≡ 1) → AreBlesOf circuit elements
  bles_of_circuit tables latches = record {
    each = all_members (λ element. holds_some circuit element ≡ true) elements (λ element c. let m = at_member elements element c in (are.each m.0 element m.2).some);
    tables = all_members (λ table. count_by (λ element. holds_table circuit element table) elements ≡ 1) circuit.tables (λ table c.
        let m = at_member circuit.tables table c in table_count m.0 table m.2 ∙ tables m.0 m.1);
    latches = all_members (λ latch. count_by (λ element. holds_latch circuit element latch) elements ≡ 1) circuit.latches (λ latch c.
        let m = at_member circuit.latches latch c in latch_count m.0 latch m.2 ∙ latches m.0 m.1);
  }

  -- the numbers are below the counts
  pub tables_within : All (λ number. ForSome number (λ k. k < length circuit.tables)) held
  tables_within = all_members (λ number. ForSome number (λ k. k < length circuit.tables)) held (λ number c.
      let m = at_member held number c in
      let small = m.1 in
      let element = get_some elements m.0 (let long = are.long in omega (arith, small, long)) in
      subst (λ o. ForSome o (λ k. k < length circuit.tables)) (get_or_from_slice_get held m.0 number None m.2) (are.each m.0 element.0 element.1).table_in)

  pub latches_within : All (λ number. ForSome number (λ k. k < length circuit.latches)) behind
  latches_within = all_members (λ number. ForSome number (λ k. k < length circuit.latches)) behind (λ number c.
      let m = at_member behind number c in
      let small = m.1 in
      let element = get_some elements m.0 (let long = are.also in omega (arith, small, long)) in
      subst (λ o. ForSome o (λ k. k < length circuit.latches)) (get_or_from_slice_get behind m.0 number None m.2) (are.each m.0 element.0 element.1).latch_in)

  -- a BLE by the number that it holds
  pub holds_table_in : (k place : ℕ) (table : LookupTable) → slice_get circuit.tables k ≡ Some table → slice_get held place ≡ Some (Some k) → HoldsTableIn circuit elements table place
  holds_table_in k place table at there =
      let small = (from_get held place (Some k) there).0 in
      let element = get_some elements place (let long = are.long in omega (arith, small, long)) in
      (element.0, element.1, (are.each place element.0 element.1).tables k table at ∙ ap (is_number k) (get_or_from_slice_get held place (Some k) None there) ∙ eq-eqb k k refl)

  pub holds_latch_in : (k place : ℕ) (latch : Latch) → slice_get circuit.latches k ≡ Some latch → slice_get behind place ≡ Some (Some k) → HoldsLatchIn circuit elements latch place
  holds_latch_in k place latch at there =
      let small = (from_get behind place (Some k) there).0 in
      let element = get_some elements place (let long = are.also in omega (arith, small, long)) in
      (element.0, element.1, (are.each place element.0 element.1).latches k latch at ∙ ap (is_number k) (get_or_from_slice_get behind place (Some k) None there) ∙ eq-eqb k k refl)

  -- what is wrong with how often tables and latches are held
  pub table_fault : (fault : OnceFault) → IsOnceFault held (length circuit.tables) fault → IsHeldFault circuit elements (of_tables fault)
  table_fault (Twice k place other) (small, less, first, second) = grind (arith, holds_table_in, get_some circuit.tables k small)
  table_fault (Never k) (small, none) = let table = get_some circuit.tables k small in (table.0, table.1, table_count k table.0 table.1 ∙ none)

  pub latch_fault : (fault : OnceFault) → IsOnceFault behind (length circuit.latches) fault → IsHeldFault circuit elements (of_latches fault)
  latch_fault (Twice k place other) (small, less, first, second) = grind (arith, holds_latch_in, get_some circuit.latches k small)
  latch_fault (Never k) (small, none) = let latch = get_some circuit.latches k small in (latch.0, latch.1, latch_count k latch.0 latch.1 ∙ none)
