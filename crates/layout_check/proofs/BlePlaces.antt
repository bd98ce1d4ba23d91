-- The BLEs of all blocks by place, and by the numbers of their blocks and their own.
use Rattle.layout_check.proofs.Prelude.{◌≡◌, ◌≢◌, ℕ, zero, suc, ◌+◌, ◌<◌, ◌≤◌, Bool, true, List, [], ◌∷◌, Some, get_or, length, map, slice_get, take, sym, ap, refl, ◌∙◌, subst, arith, inl, inr, ◌⊎◌, length-append, Contains, count_by, flat_map, cases_eq, length-map, get_or-flat_map, get_or_from_slice_get, slice_get-get_or, Arch, LogicElement, LaidBle, LaidBlock, traced_ble, from_get, to_flat_map, to_map, count-append, count-cons, count-yes, some_counted, BleNumber, IsNumberOf, IsBleAt}
use Rattle.layout_check.proofs.OneDriver.{two_counted}

abbrev pub bles_in : List LaidBlock → List LaidBle
bles_in blocks = flat_map (λ block. block.bles) blocks

abbrev pub traced_in : Arch → LaidBlock → List LogicElement
traced_in arch block = map (traced_ble arch block) block.bles

pub get_some : {X : Type 0} (xs : List X) (k : ℕ) → k < length xs → (x : X) × (slice_get xs k ≡ Some x)
get_some [] k less = absurd (omega (arith, less))
get_some (x ∷ xs) zero less = (x, refl)
get_some (x ∷ xs) (suc k) less = get_some xs k (omega (arith, less))

-- ---- from places to numbers

pub number_found : (blocks : List LaidBlock) (place k left : ℕ) (block : LaidBlock) → k < length blocks → get_or blocks k block ≡ block → place ≡ length (bles_in (take k blocks)) + left → left < length block.bles →
    IsNumberOf blocks place (record { block = k; ble = left })
number_found blocks place k left block small is at within = grind (arith, get_some block.bles left within, slice_get-get_or blocks k block small)

-- places that differ have numbers that differ
pub numbers_differ : (blocks : List LaidBlock) (place other : ℕ) (number second : BleNumber) → place < other → IsNumberOf blocks place number → IsNumberOf blocks other second → number ≢ second
numbers_differ blocks place other number second less a b same = grind arith

-- tracing keeps places
traced_length : (arch : Arch) (blocks : List LaidBlock) → length (flat_map (traced_in arch) blocks) ≡ length (bles_in blocks)
traced_length arch [] = refl
traced_length arch (block ∷ blocks) = grind (arith, length-append, length-map, traced_length arch blocks)

pub place_within : (arch : Arch) (blocks : List LaidBlock) (place : ℕ) (element : LogicElement) → slice_get (flat_map (traced_in arch) blocks) place ≡ Some element → place < length (bles_in blocks)
place_within arch blocks place element at = let small = (from_get (flat_map (traced_in arch) blocks) place element at).0 in omega (arith, small, traced_length arch blocks)

pub traced_at : (arch : Arch) (blocks : List LaidBlock) (place : ℕ) (number : BleNumber) (element : LogicElement) → IsNumberOf blocks place number → slice_get (flat_map (traced_in arch) blocks) place ≡ Some element →
    IsBleAt arch blocks number element
traced_at arch blocks place number element so at = record { laid = so.laid; at_block = so.at_block; ble = so.ble; at_ble = so.at_ble; is = sym it ∙ there }
  where
    block_is : (d : LaidBlock) → get_or blocks number.block d ≡ so.laid
    block_is d = get_or_from_slice_get blocks number.block so.laid d so.at_block

    small : number.ble < length (traced_in arch so.laid)
    small = let within = (from_get so.laid.bles number.ble so.ble so.at_ble).0 in omega (arith, within, length-map so.laid.bles (traced_ble arch so.laid))

    offset : place ≡ length (flat_map (traced_in arch) (take number.block blocks)) + number.ble
    offset = let from = so.offset in omega (arith, from, traced_length arch (take number.block blocks))

    there : get_or (flat_map (traced_in arch) blocks) place element ≡ element
    there = get_or_from_slice_get (flat_map (traced_in arch) blocks) place element element at

    it : get_or (flat_map (traced_in arch) blocks) place element ≡ traced_ble arch so.laid so.ble
    it =
        ap (λ p. get_or (flat_map (traced_in arch) blocks) p element) offset
        ∙ get_or-flat_map (traced_in arch) blocks number.block number.ble so.laid element (from_get blocks number.block so.laid so.at_block).0 (subst (λ (b : LaidBlock). number.ble < length (traced_in arch b)) (sym (block_is so.laid)) small)
        ∙ ap (λ (b : LaidBlock). get_or (traced_in arch b) number.ble element) (block_is so.laid)
        ∙ from_map_get so.laid.bles number.ble so.ble so.at_ble
      where
        from_map_get : (bles : List LaidBle) (k : ℕ) (ble : LaidBle) → slice_get bles k ≡ Some ble → get_or (map (traced_ble arch so.laid) bles) k element ≡ traced_ble arch so.laid ble
        from_map_get [] k ble e = absurd cc
        from_map_get (b ∷ bles) zero ble e = let same : b ≡ ble = cc in ap (traced_ble arch so.laid) same
        from_map_get (b ∷ bles) (suc k) ble e = from_map_get bles k ble e

-- a BLE with a number is one of all
pub in_traced : (arch : Arch) (blocks : List LaidBlock) (number : BleNumber) (element : LogicElement) → IsBleAt arch blocks number element → Contains (flat_map (traced_in arch) blocks) element
in_traced arch blocks number element so =
    to_flat_map (traced_in arch) blocks so.laid element (from_get blocks number.block so.laid so.at_block).1
    (subst (λ e. Contains (traced_in arch so.laid) e) so.is (to_map (traced_ble arch so.laid) so.laid.bles so.ble (from_get so.laid.bles number.ble so.ble so.at_ble).1))

-- ---- two BLEs with different numbers are counted twice

two_at : {X : Type 0} (test : X → Bool) (xs : List X) (i j : ℕ) (x y : X) → i ≢ j → slice_get xs i ≡ Some x → slice_get xs j ≡ Some y → test x ≡ true → test y ≡ true → 2 ≤ count_by test xs
two_at test [] i j x y differ a b one two = absurd cc
two_at test (z ∷ xs) zero zero x y differ a b one two = absurd (differ refl)
two_at test (z ∷ xs) zero (suc j) x y differ a b one two = grind (arith, count-yes, some_counted, from_get, some_counted test xs y (from_get xs j y b).1 two, from_get xs j y b)
two_at test (z ∷ xs) (suc i) zero x y differ a b one two = grind (arith, count-yes, some_counted, from_get, some_counted test xs x (from_get xs i x a).1 one, from_get xs i x a)
two_at test (z ∷ xs) (suc i) (suc j) x y differ a b one two =
    let rest = two_at test xs i j x y (λ e. differ (ap (λ n. suc n) e)) a b one two in
    let all = count-cons test z xs in
    omega (arith, rest, all)

part_below : {X Y : Type 0} (f : X → List Y) (test : Y → Bool) (xs : List X) (j : ℕ) (y : X) → slice_get xs j ≡ Some y → count_by test (f y) ≤ count_by test (flat_map f xs)
part_below f test [] j y at = absurd cc
part_below f test (x ∷ xs) zero y at = grind (arith, count-append)
part_below f test (x ∷ xs) (suc j) y at = grind (arith, count-append, part_below f test xs j y)

abbrev numbered : ℕ → ℕ → BleNumber
numbered m n = record { block = m; ble = n }

map_at : {X Y : Type 0} (f : X → Y) (xs : List X) (k : ℕ) (x : X) → slice_get xs k ≡ Some x → slice_get (map f xs) k ≡ Some (f x)
map_at f [] k x at = absurd cc
map_at f (y ∷ xs) zero x at = let same : y ≡ x = cc in ap (λ z. Some (f z)) same
map_at f (y ∷ xs) (suc k) x at = map_at f xs k x at

pub two_bles : (test : LogicElement → Bool) (arch : Arch) (blocks : List LaidBlock) (number other : BleNumber) (a b : LogicElement) → number ≢ other → IsBleAt arch blocks number a → IsBleAt arch blocks other b → test a ≡ true → test b ≡ true →
    2 ≤ count_by test (flat_map (traced_in arch) blocks)
two_bles test arch blocks number other a b differ one two is also = by (cases_eq number.block other.block)
  where
    first : slice_get (traced_in arch one.laid) number.ble ≡ Some a
    first = map_at (traced_ble arch one.laid) one.laid.bles number.ble one.ble one.at_ble ∙ ap (λ e. Some e) one.is

    second : slice_get (traced_in arch two.laid) other.ble ≡ Some b
    second = map_at (traced_ble arch two.laid) two.laid.bles other.ble two.ble two.at_ble ∙ ap (λ e. Some e) two.is

    by : (number.block ≡ other.block) ⊎ (number.block ≢ other.block) → 2 ≤ count_by test (flat_map (traced_in arch) blocks)
    by (inl e) =
        let from : slice_get blocks other.block ≡ Some one.laid = ap (slice_get blocks) (sym e) ∙ one.at_block in
        let to = two.at_block in
        let same : two.laid ≡ one.laid = cc in
        let apart : number.ble ≢ other.ble = λ i. differ (ap (λ m. numbered m number.ble) e ∙ ap (numbered other.block) i) in
        let here = two_at test (traced_in arch one.laid) number.ble other.ble a b apart first (subst (λ (l : LaidBlock). slice_get (traced_in arch l) other.ble ≡ Some b) same second) is also in
        let all = part_below (traced_in arch) test blocks number.block one.laid one.at_block in
        omega (arith, here, all)
    by (inr apart) =
        two_counted (traced_in arch) test blocks number.block other.block one.laid two.laid apart one.at_block two.at_block
        (some_counted test (traced_in arch one.laid) a (from_get (traced_in arch one.laid) number.ble a first).1 is)
        (some_counted test (traced_in arch two.laid) b (from_get (traced_in arch two.laid) other.ble b second).1 also)
