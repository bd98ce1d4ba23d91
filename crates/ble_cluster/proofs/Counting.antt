-- Counts, marks and latches by net, after one more read or driver.
use Rattle.ble_cluster.proofs.Prelude.{◌≡◌, ◌≢◌, ◌⊎◌, inl, inr, ℕ, ◌+◌, ◌<◌, Bool, true, false, not, cond, ◌==◌, ◌||◌, List, [], ◌∷◌, ◌++◌, Option, Some, None, length, get_or, set, take, min, sym, ap, subst, ◌∙◌, arith, append_assoc, slice_get, get_or-set_other, length-set, zero-add, option_to_list, is_some, count_by, flat_map, flat_map-append, get_or-set_at, take_more, append-nil, get_or-replicate, length-replicate, sum_by-append, find-append, list_any-append, get_or_from_slice_get, slice_get-get_or, eqb_tells, Latch, LookupTable, AreCounts, AreDriven, AreLatches, CountsOn}
use Rattle.std.specs.Prelude.{replicate}

-- the list up to and including the element at an index
pub take_place : {X : Type 0} (xs : List X) (i : ℕ) (x : X) → i < length xs → slice_get xs i ≡ Some x → take (i + 1) xs ≡ take i xs ++ x ∷ []
take_place xs i x within at = take_more xs i x within ∙ ap (λ y. take i xs ++ y ∷ []) (get_or_from_slice_get xs i x x at)

pub flat_map_push : {X A : Type 0} (f : X → List A) (xs : List X) (x : X) → flat_map f (xs ++ x ∷ []) ≡ flat_map f xs ++ f x
flat_map_push f xs x = flat_map-append f xs (x ∷ []) ∙ ap (λ last. flat_map f xs ++ last) (append-nil (f x))

-- one more element is counted if it passes
pub count_by-push : {X : Type 0} (p : X → Bool) (xs : List X) (x : X) → count_by p (xs ++ x ∷ []) ≡ count_by p xs + cond (p x) 1 0
count_by-push p xs x = sum_by-append (λ y. cond (p y) 1 0) xs (x ∷ []) ∙ ap (λ n. count_by p xs + n) (zero-add (cond (p x) 1 0))

-- one more read is counted
pub counts_more : (counts : List ℕ) (net more : ℕ) → net < length counts → more ≡ min (get_or counts net 0 + 1) 255 → CountsOn counts (net ∷ []) (set counts net more)
counts_more counts net more within is reads counted other inside =
    let inner : other < length counts = omega (arith, inside, length-set {A = ℕ}) in
    by (eqb_tells net other) (count_by-push (λ read. read == other) reads net) (counted other inner)
  where
    by : ((net == other) ≡ true) × (net ≡ other) ⊎ ((net == other) ≡ false) × (net ≢ other) → count_by (λ read. read == other) (reads ++ net ∷ []) ≡ count_by (λ read. read == other) reads + cond (net == other) 1 0 → get_or counts other 0 ≡ min 255 (count_by (λ read. read == other) reads) → get_or (set counts net more) other 0 ≡ min 255 (count_by (λ read. read == other) (reads ++ net ∷ []))
    by (inl e) count old =
        let one = rw e.0 at count in
        let here : get_or (set counts net more) other 0 ≡ more = get_or-set_at counts net other more 0 (sym e.1) within in
        let same : get_or counts net 0 ≡ get_or counts other 0 = ap (λ n. get_or counts n 0) e.1 in
        omega (arith, here, same, is, old, one)
    by (inr e) count old =
        let none = rw e.0 at count in
        let here : get_or (set counts net more) other 0 ≡ get_or counts other 0 = get_or-set_other counts net other more 0 (λ h. e.1 (sym h)) in
        omega (arith, here, old, none)

-- counts that are increased twice
pub counts_on_none : (counts : List ℕ) → CountsOn counts [] counts
counts_on_none counts reads counted = rw (append-nil reads) counted

pub counts_on : (old mid new some others all : List ℕ) → CountsOn old some mid → CountsOn mid others new → some ++ others ≡ all → CountsOn old all new
counts_on old mid new some others all first then is reads counted = grind (arith, append_assoc reads some others)

-- nothing is read yet
pub counts_none : (n : ℕ) → AreCounts [] (replicate n 0)
counts_none n net within = let inner : net < n = omega (arith, within, length-replicate {A = ℕ}) in get_or-replicate n net 0 0 inner

-- the element read after a write
pub read_same : {X : Type 0} (xs : List X) (i j : ℕ) (x : X) → i ≡ j → i < length xs → slice_get (set xs i x) j ≡ Some x
read_same xs i j x is within = grind (arith, slice_get-get_or, length-set xs i x, get_or-set_at xs i j x x (sym is) within)

pub read_other : {X : Type 0} (xs : List X) (i j : ℕ) (x : X) → i ≢ j → j < length xs → slice_get (set xs i x) j ≡ slice_get xs j
read_other xs i j x is within = grind (arith, slice_get-get_or, get_or-set_other, length-set xs i x, slice_get-get_or xs j x within)

-- the latch is the first at its net, if there was none
pub latches_more : (latches : List Latch) (behind : List (Option Latch)) (latch : Latch) → latch.input < length behind → slice_get behind latch.input ≡ Some None → AreLatches latches behind → AreLatches (latches ++ latch ∷ []) (set behind latch.input (Some latch))
latches_more latches behind latch within free are net inside = grind (arith, length-set, find-append, read_same, read_other)

-- the latch is not the first at its net, if there was one
pub latches_same : (latches : List Latch) (behind : List (Option Latch)) (latch other : Latch) → slice_get behind latch.input ≡ Some (Some other) → AreLatches latches behind → AreLatches (latches ++ latch ∷ []) behind
latches_same latches behind latch other taken are net inside = grind (arith, find-append)

or-false : (b : Bool) → (b || false) ≡ b
or-false b = grind arith

or-true : (b : Bool) → (b || true) ≡ true
or-true b = grind arith

-- one more table is marked
pub driven_more : (tables : List LookupTable) (driven : List Bool) (table : LookupTable) (output : ℕ) → output ≡ table.output → output < length driven → AreDriven tables driven → AreDriven (tables ++ table ∷ []) (set driven output true)
driven_more tables driven table output is within are net inside = grind (arith, length-set, list_any-append, read_same, read_other)

-- a control, if there is one
pub control_here : (control : Option ℕ) (net : ℕ) → control ≡ Some net → net ∷ [] ≡ option_to_list control
control_here control net is = sym (ap option_to_list is)

pub control_none : (control : Option ℕ) → ((net : ℕ) → control ≡ Some net → ⊥) → [] ≡ option_to_list control
control_none control h = grind arith

-- one more latch, at a net that doesn't have one yet
pub latches_free : (latches : List Latch) (behind : List (Option Latch)) (i : ℕ) (d : Latch) (read : Option Latch) (none : Bool) → i < length latches → (get_or latches i d).input < length behind → read ≡ get_or behind (get_or latches i d).input read → is_some read ≡ not none → none ≡ true → AreLatches (take i latches) behind → AreLatches (take (i + 1) latches) (set behind (get_or latches i d).input (Some (get_or latches i d)))
latches_free latches behind i d read none within inside is some h are = grind (arith, latches_more, slice_get-get_or behind (get_or latches i d).input read inside, take_more latches i d within)

-- one more latch, at a net that already has one
pub latches_taken : (latches : List Latch) (behind : List (Option Latch)) (i : ℕ) (d : Latch) (read : Option Latch) (none : Bool) → i < length latches → (get_or latches i d).input < length behind → read ≡ get_or behind (get_or latches i d).input read → is_some read ≡ not none → none ≡ false → AreLatches (take i latches) behind → AreLatches (take (i + 1) latches) behind
latches_taken latches behind i d read none within inside is some h are =
    let at : slice_get behind (get_or latches i d).input ≡ Some read = slice_get-get_or behind (get_or latches i d).input read inside ∙ ap Some (sym is) in
    subst (λ ls. AreLatches ls behind) (sym (take_more latches i d within)) (by read at (some ∙ ap not h))
  where
    by : (o : Option Latch) → slice_get behind (get_or latches i d).input ≡ Some o → is_some o ≡ true → AreLatches (take i latches ++ get_or latches i d ∷ []) behind
    by None at e = absurd cc
    by (Some other) at e = latches_same (take i latches) behind (get_or latches i d) other at are

-- the reads of one more latch
pub controls_more : (latches : List Latch) (i : ℕ) (d : Latch) (controls : List ℕ) → i < length latches → controls ≡ option_to_list (get_or latches i d).control → flat_map (λ (latch : Latch). option_to_list latch.control) (take i latches) ++ controls ≡ flat_map (λ (latch : Latch). option_to_list latch.control) (take (i + 1) latches)
controls_more latches i d controls within is = grind (arith, flat_map_push, take_more latches i d within)
