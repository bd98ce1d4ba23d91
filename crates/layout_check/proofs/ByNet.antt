-- The blocks that drive a net and those at which it is wanted, by net.
use Rattle.layout_check.proofs.Prelude.{◌≡◌, ℕ, ◌+◌, ◌<◌, ◌≤◌, Bool, true, ◌&&◌, ◌||◌, cond, List, [], ◌∷◌, ◌++◌, Option, Some, filter, map, take, set, get_or, length, replicate, slice_get, sym, ap, refl, ◌∙◌, subst, arith, zero, suc, Contains, option_map, enumerate_from, flat_map, list_any, range_with_len, option_to_list, or_assoc, false≢true, append-nil, get_or-map, get_or-replicate, length-map, length-replicate, map-append, map-set, replicate_more, take_all, filter_more, list_any_more, get_or-enumerate_from, get_or-range_with_len, length-enumerate_from, length-range_with_len, same_Some, slice_get-get_or, at_member, enumerated, from_filter, from_get, from_map, in_first, in_later, to_filter, to_map, LaidBlock, sink_at, Node, IsClear, is_in, AreListsOf, AreNoted, IsNoted, list_at, numbers_of, sinks_at}

-- one empty list more
pub one_more_empty : {V : Type 0} (lists new : List V) (items : V → List ℕ) (list : V) (n : ℕ) → map items lists ≡ replicate n [] → new ≡ lists ++ list ∷ [] → items list ≡ [] → map items new ≡ replicate (n + 1) []
one_more_empty lists new items list n so more empty = grind (arith, map-append, replicate_more)

-- one item more in the list with this number
pub added_to : {V : Type 0} (lists : List V) (items : V → List ℕ) (number item : ℕ) (old new : V) → number < length (map items lists) → old ≡ get_or lists number old → items new ≡ items old ++ item ∷ [] →
    map items (set lists number new) ≡ set (map items lists) number (list_at (map items lists) number ++ item ∷ [])
added_to lists items number item old new small at is = grind (arith, length-map, get_or-map, map-set)

-- ---- one block

-- nothing changes where each net that passes is in the set
pub noted_same : (number count : ℕ) (test : ℕ → Bool) (marks : List Bool) (lists : List (List ℕ)) → length marks ≡ count → length lists ≡ count → ((net : ℕ) → net < count → test net ≡ true → is_in marks net ≡ true) →
    IsNoted number count test marks marks lists lists
noted_same number count test marks lists marked long inside = grind arith

-- one test after the other
pub noted_then : (number count : ℕ) (p q r : ℕ → Bool) (a b c : List Bool) (x y z : List (List ℕ)) → ((net : ℕ) → r net ≡ (p net || q net)) → IsNoted number count p a b x y → IsNoted number count q b c y z → IsNoted number count r a c x z
noted_then number count p q r a b c x y z either first next = record {
  long = next.long;
  marked = next.marked;
  exact = λ net small.
      next.exact net small ∙ ap (λ is. is || q net) (first.exact net small) ∙ or_assoc (is_in a net) (p net) (q net) ∙ ap (λ passes. is_in a net || passes) (sym (either net));
  noted = λ start before. next.noted start (first.noted start before);
}

-- ---- the steps of a loop over a list

pub noted_start : {X : Type 0} (number count : ℕ) (test : ℕ → X → Bool) (xs : List X) (marks : List Bool) (lists : List (List ℕ)) → length marks ≡ count → length lists ≡ count →
    IsNoted number count (λ net. list_any (test net) (take 0 xs)) marks marks lists lists
noted_start number count test xs marks lists marked long = noted_same number count (λ net. list_any (test net) (take 0 xs)) marks lists marked long (λ net small passes. absurd (false≢true passes))

pub noted_more : {X : Type 0} (number count : ℕ) (test : ℕ → X → Bool) (xs : List X) (i : ℕ) (item : X) (a b c : List Bool) (x y z : List (List ℕ)) → i < length xs → get_or xs i item ≡ item →
    IsNoted number count (λ net. list_any (test net) (take i xs)) a b x y → IsNoted number count (λ net. test net item) b c y z → IsNoted number count (λ net. list_any (test net) (take (i + 1) xs)) a c x z
noted_more number count test xs i item a b c x y z small is first next =
    noted_then number count (λ net. list_any (test net) (take i xs)) (λ net. test net item) (λ net. list_any (test net) (take (i + 1) xs)) a b c x y z
    (λ net. list_any_more (test net) xs i item small ∙ ap (λ t. list_any (test net) (take i xs) || test net t) is) first next

pub noted_all : {X : Type 0} (number count : ℕ) (test : ℕ → X → Bool) (xs : List X) (i : ℕ) (a b : List Bool) (x y : List (List ℕ)) → length xs ≤ i → IsNoted number count (λ net. list_any (test net) (take i xs)) a b x y →
    IsNoted number count (λ net. list_any (test net) xs) a b x y
noted_all number count test xs i a b x y end noted = subst (λ front. IsNoted number count (λ net. list_any (test net) front) a b x y) (take_all i xs end) noted

-- the same over the numbers below a count
pub noted_next : (number count : ℕ) (test : ℕ → ℕ → Bool) (n i : ℕ) (a b c : List Bool) (x y z : List (List ℕ)) → i < n →
    IsNoted number count (λ net. list_any (test net) (take i (range_with_len 0 n))) a b x y → IsNoted number count (λ net. test net i) b c y z → IsNoted number count (λ net. list_any (test net) (take (i + 1) (range_with_len 0 n))) a c x z
noted_next number count test n i a b c x y z small first next =
    noted_more number count test (range_with_len 0 n) i i a b c x y z (let long = length-range_with_len 0 n in omega (arith, long, small)) (get_or-range_with_len 0 n i i small ∙ omega arith) first next

pub noted_last : (number count : ℕ) (test : ℕ → ℕ → Bool) (n i : ℕ) (a b : List Bool) (x y : List (List ℕ)) → n ≤ i →
    IsNoted number count (λ net. list_any (test net) (take i (range_with_len 0 n))) a b x y → IsNoted number count (λ net. list_any (test net) (range_with_len 0 n)) a b x y
noted_last number count test n i a b x y end noted = noted_all number count test (range_with_len 0 n) i a b x y (let long = length-range_with_len 0 n in omega (arith, long, end)) noted

-- ---- all blocks

-- for each net, the list has the numbers of those of the first blocks that pass its test
pub record AreListsUpTo (test : ℕ → LaidBlock → Bool) (blocks : List LaidBlock) (count n : ℕ) (lists : List (List ℕ)) : Type 0 where
  pub long : length lists ≡ count
  pub each : (net : ℕ) → net < count → list_at lists net ≡ map (λ block. block.0) (filter (λ block. test net block.1) (take n (enumerate_from 0 blocks)))

pub lists_start : (test : ℕ → LaidBlock → Bool) (blocks : List LaidBlock) (count : ℕ) (lists : List (List ℕ)) → lists ≡ replicate count [] → AreListsUpTo test blocks count 0 lists
lists_start test blocks count lists empty = grind (arith, length-replicate, get_or-replicate)

number_kept : (n : ℕ) (block : LaidBlock) (keeps : Bool) → cond {A = List ℕ} keeps (n ∷ []) [] ≡ map (λ (b : ℕ × LaidBlock). b.0) (cond keeps ((n, block) ∷ []) [])
number_kept n block keeps = grind arith

pub lists_more : (test : ℕ → LaidBlock → Bool) (blocks : List LaidBlock) (count n : ℕ) (block : LaidBlock) (before after : List Bool) (old new : List (List ℕ)) → n < length blocks → get_or blocks n block ≡ block → IsClear before →
    AreListsUpTo test blocks count n old → IsNoted n count (λ net. test net block) before after old new → AreListsUpTo test blocks count (n + 1) new
lists_more test blocks count n block before after old new small item clear so noted = record {
  long = noted.long;
  each = each_more;
}
  where
    unchanged : AreNoted n count before old old
    unchanged net less = sym (ap (λ b. list_at old net ++ cond {A = List ℕ} b (n ∷ []) []) (clear net) ∙ append-nil (list_at old net))

    each_more : (net : ℕ) → net < count → list_at new net ≡ map (λ (b : ℕ × LaidBlock). b.0) (filter (λ (b : ℕ × LaidBlock). test net b.1) (take (n + 1) (enumerate_from 0 blocks)))
    each_more net less =
        let first : ℕ × LaidBlock → ℕ = λ b. b.0 in
        let passes : ℕ × LaidBlock → Bool = λ b. test net b.1 in
        let front = filter passes (take n (enumerate_from 0 blocks)) in
        let none_before : 0 + n ≡ n = omega arith in
        let at : get_or (enumerate_from 0 blocks) n (n, block) ≡ (n, block) =
        get_or-enumerate_from 0 blocks n (n, block) small ∙ ap (λ (b : LaidBlock). (0 + n, b)) item ∙ ap (λ (m : ℕ). (m, block)) none_before in
        let more : filter passes (take (n + 1) (enumerate_from 0 blocks)) ≡ front ++ cond (test net block) ((n, block) ∷ []) [] =
        filter_more passes (enumerate_from 0 blocks) n (n, block) (let long = length-enumerate_from 0 blocks in omega (arith, long, small)) ∙ ap (λ b. front ++ cond (passes b) (b ∷ []) []) at in
        let is : is_in after net ≡ test net block = noted.exact net less ∙ ap (λ b. b || test net block) (clear net) in
        noted.noted old unchanged net less ∙ ap (λ b. list_at old net ++ cond {A = List ℕ} b (n ∷ []) []) is ∙ ap (λ l. l ++ cond {A = List ℕ} (test net block) (n ∷ []) []) (so.each net less)
        ∙ ap (λ l. map first front ++ l) (number_kept n block (test net block)) ∙ sym (map-append first front (cond (test net block) ((n, block) ∷ []) [])) ∙ sym (ap (map first) more)

pub lists_all : (test : ℕ → LaidBlock → Bool) (blocks : List LaidBlock) (count n : ℕ) (lists : List (List ℕ)) → length blocks ≤ n → AreListsUpTo test blocks count n lists → AreListsOf test blocks count lists
lists_all test blocks count n lists end so = grind (arith, take_all, length-enumerate_from)

-- ---- what the numbers say of the blocks

at_enumerated : (blocks : List LaidBlock) (p : ℕ × LaidBlock) → Contains (enumerate_from 0 blocks) p → slice_get blocks p.0 ≡ Some p.1
at_enumerated blocks p c =
    let q = at_member (enumerate_from 0 blocks) p c in
    let long = length-enumerate_from 0 blocks in
    let small : q.0 < length blocks = let less = q.1 in omega (arith, long, less) in
    let there = slice_get-get_or blocks q.0 p.1 small in
    let is : (0 + q.0, get_or blocks q.0 p.1) ≡ p = same_Some (0 + q.0, get_or blocks q.0 p.1) p (sym (enumerated 0 blocks q.0 (get_or blocks q.0 p.1) there) ∙ q.2) in
    let none_before : q.0 ≡ 0 + q.0 = omega arith in
    let number : q.0 ≡ p.0 = none_before ∙ ap (λ (r : ℕ × LaidBlock). r.0) is in
    ap (slice_get blocks) (sym number) ∙ there ∙ ap (λ (r : ℕ × LaidBlock). Some r.1) is

pub from_numbers : (test : LaidBlock → Bool) (blocks : List LaidBlock) (k : ℕ) → Contains (numbers_of test blocks) k → (block : LaidBlock) × (slice_get blocks k ≡ Some block) × (test block ≡ true)
from_numbers test blocks k c =
    let q = from_map (λ (b : ℕ × LaidBlock). b.0) (filter (λ (b : ℕ × LaidBlock). test b.1) (enumerate_from 0 blocks)) k c in
    let r = from_filter (λ (b : ℕ × LaidBlock). test b.1) (enumerate_from 0 blocks) q.0 q.1 in
    (q.0.1, subst (λ n. slice_get blocks n ≡ Some q.0.1) q.2 (at_enumerated blocks q.0 r.0), r.1)

pub to_numbers : (test : LaidBlock → Bool) (blocks : List LaidBlock) (k : ℕ) (block : LaidBlock) → slice_get blocks k ≡ Some block → test block ≡ true → Contains (numbers_of test blocks) k
to_numbers test blocks k block there passes =
    let none_before : 0 + k ≡ k = omega arith in
    let at : slice_get (enumerate_from 0 blocks) k ≡ Some (k, block) = enumerated 0 blocks k block there ∙ ap (λ (n : ℕ). Some (n, block)) none_before in
    to_map (λ (b : ℕ × LaidBlock). b.0) (filter (λ (b : ℕ × LaidBlock). test b.1) (enumerate_from 0 blocks)) (k, block)
    (to_filter (λ (b : ℕ × LaidBlock). test b.1) (enumerate_from 0 blocks) (k, block) (from_get (enumerate_from 0 blocks) k (k, block) at).1 passes)

-- ---- the sinks of the blocks with these numbers

sinks_of_pairs : (blocks : List LaidBlock) (pairs : List (ℕ × LaidBlock)) → ((p : ℕ × LaidBlock) → Contains pairs p → slice_get blocks p.0 ≡ Some p.1) →
    sinks_at blocks (map (λ b. b.0) pairs) ≡ map (λ laid. sink_at laid.block laid.place) (map (λ b. b.1) pairs)
sinks_of_pairs blocks [] there = refl
sinks_of_pairs blocks (p ∷ pairs) there =
    ap (λ (o : Option LaidBlock). option_to_list (option_map (λ (laid : LaidBlock). sink_at laid.block laid.place) o) ++ sinks_at blocks (map (λ (b : ℕ × LaidBlock). b.0) pairs)) (there p (in_first p pairs))
    ∙ ap (λ rest. sink_at p.1.block p.1.place ∷ rest) (sinks_of_pairs blocks pairs (λ q c. there q (in_later p q pairs c)))

-- the blocks that pass, of one block more
one_block : (keeps : Bool) (n : ℕ) (block : LaidBlock) (kept : List (ℕ × LaidBlock)) (rest : List LaidBlock) → map (λ b. b.1) kept ≡ rest → map (λ b. b.1) (cond keeps ((n, block) ∷ kept) kept) ≡ cond keeps (block ∷ rest) rest
one_block keeps n block kept rest e = grind arith

passing : (test : LaidBlock → Bool) (n : ℕ) (blocks : List LaidBlock) → map (λ b. b.1) (filter (λ b. test b.1) (enumerate_from n blocks)) ≡ filter test blocks
passing test n [] = refl
passing test n (block ∷ blocks) = one_block (test block) n block (filter (λ (b : ℕ × LaidBlock). test b.1) (enumerate_from (n + 1) blocks)) (filter test blocks) (passing test (n + 1) blocks)

pub sinks_by_number : (test : LaidBlock → Bool) (blocks : List LaidBlock) → sinks_at blocks (numbers_of test blocks) ≡ map (λ laid. sink_at laid.block laid.place) (filter test blocks)
sinks_by_number test blocks =
    let pairs = filter (λ (b : ℕ × LaidBlock). test b.1) (enumerate_from 0 blocks) in
    sinks_of_pairs blocks pairs (λ p c. at_enumerated blocks p (from_filter (λ (b : ℕ × LaidBlock). test b.1) (enumerate_from 0 blocks) p c).0)
    ∙ ap (map (λ (laid : LaidBlock). sink_at laid.block laid.place)) (passing test 0 blocks)

-- ---- the blocks that are listed with a net

both_tests : (p : ℕ → Bool) (q : LaidBlock → Bool) (pairs : List (ℕ × LaidBlock)) → filter p (map (λ b. b.0) (filter (λ b. q b.1) pairs)) ≡ map (λ b. b.0) (filter (λ b. p b.0 && q b.1) pairs)
both_tests p q [] = refl
both_tests p q (b ∷ pairs) = grind (arith, both_tests p q pairs)

pub others_by_number : (p : ℕ → Bool) (q : LaidBlock → Bool) (blocks : List LaidBlock) → filter p (numbers_of q blocks) ≡ map (λ block. block.0) (filter (λ block. p block.0 && q block.1) (enumerate_from 0 blocks))
others_by_number p q blocks = both_tests p q (enumerate_from 0 blocks)
