-- A service that a core is made with.
use Rattle.shared_core.proofs.Prelude.{◌≡◌, ℕ, zero, suc, ◌+◌, ◌-◌, ◌≤◌, List, [], ◌∷◌, ◌++◌, length, take, Bool, true, false, eqb, Option, Some, None, refl, ap, arith, if◌then◌else◌, is_some, nat_lt, slice_get, ◌&&◌, nat_tests, length-replicate, slice_get_past, PlacedStrip, strip_of, strips_without, strip_of-without, Entry, History, AreAlone, IsAloneOn, ServiceState, entries_in, history_of, journal_of, All-history_of, history_of-past, AreSlotted, Marked, numbers_after, is_live, number_of, puts_among, puts_in, no_marks, IsAccount}
use Rattle.std.specs.Prelude.{replicate}
use Rattle.shared_core.proofs.Sums.{leases_in-none, places_of-none, places_sum-none}
use Rattle.shared_core.proofs.Following.{Follows-same}
use Rattle.shared_core.proofs.Holders.{AreSlotted-given, AreSlotted-same, shrinks}

pub replicate-push : {A : Type 0} (n : ℕ) (x : A) → replicate (n + 1) x ≡ replicate n x ++ x ∷ []
replicate-push n x = let e : n + 1 ≡ suc n = omega arith in rw e (by_suc n)
  where
    by_suc : (m : ℕ) → replicate (suc m) x ≡ replicate m x ++ x ∷ []
    by_suc zero = refl
    by_suc (suc m) = ap (λ xs. x ∷ xs) (by_suc m)

-- a journal has at most 65,536 entries
pub few_entries : (s : ServiceState) (id : ℕ) → AreAlone s → length (journal_of s id) ≤ 65536
few_entries s id alone = at_option (history_of s.histories id) refl
  where
    at_option : (o : Option History) → history_of s.histories id ≡ o → length (entries_in o) ≤ 65536
    at_option None e = omega arith
    at_option (Some h) e = let lone : IsAloneOn s.device h = All-history_of (IsAloneOn s.device) s.histories id h e alone in lone.replayed.few

pub puts_among-take : (es : List Entry) (i : ℕ) (e : Entry) → slice_get es i ≡ Some e → puts_among (take (i + 1) es) ≡ puts_among (take i es) + puts_among (e ∷ [])
puts_among-take [] i e at = cc
puts_among-take (x ∷ es) zero e at = let same : x ≡ e = cc in rw same (omega arith)
puts_among-take (x ∷ es) (suc i) e at = let one : suc i + 1 ≡ suc (i + 1) = omega arith in rw one (let rest = puts_among-take es i e at in omega arith)

pub puts_among-all : (es : List Entry) (i : ℕ) → slice_get es i ≡ None → puts_among (take i es) ≡ puts_among es
puts_among-all [] zero none = refl
puts_among-all [] (suc i) none = refl
puts_among-all (x ∷ es) zero none = cc
puts_among-all (x ∷ es) (suc i) none = let rest = puts_among-all es i none in omega arith

-- all journals
pub puts_in-take : (hs : List History) (i : ℕ) → puts_in (take (i + 1) hs) ≡ puts_in (take i hs) + puts_among (entries_in (history_of hs (i + 1)))
puts_in-take [] zero = refl
puts_in-take [] (suc i) = let one : suc i + 1 ≡ suc (i + 1) = omega arith in rw one (omega arith)
puts_in-take (h ∷ hs) zero = omega arith
puts_in-take (h ∷ hs) (suc i) =
    let one : suc i + 1 ≡ suc (i + 1) = omega arith in
    let e : eqb (suc i + 1) 1 ≡ false = grind (arith, nat_tests) in
    let m : suc i + 1 - 1 ≡ i + 1 = omega arith in
    let rest = puts_in-take hs i in
    rw (e, m, one) (omega arith)

-- the live tenancies of the first ids
abbrev pub live_upto : List History → ℕ → ℕ → Bool
live_upto hs i id = nat_lt id (i + 1) && is_live hs id

pub upto_none : (hs : List History) (id : ℕ) → is_live hs 0 ≡ false → live_upto hs 0 id ≡ false
upto_none hs id nobody = grind arith

pub upto_all : (hs : List History) (id : ℕ) → is_live hs id ≡ live_upto hs (length hs) id
upto_all hs id = grind (arith, history_of-past)

upto_dead : (hs : List History) (i id : ℕ) → is_live hs (i + 1) ≡ false → live_upto hs (i + 1) id ≡ live_upto hs i id
upto_dead hs i id dead = grind arith

upto_live : (hs : List History) (i id : ℕ) → is_live hs (i + 1) ≡ true → live_upto hs (i + 1) id ≡ (if eqb id (i + 1) then true else live_upto hs i id)
upto_live hs i id live = grind arith

-- the number of the next id
pub slotted_dead : (hs : List History) (holders : List ℕ) (i : ℕ) → is_live hs (i + 1) ≡ false → AreSlotted (live_upto hs i) holders → AreSlotted (live_upto hs (i + 1)) holders
slotted_dead hs holders i dead was = AreSlotted-same (live_upto hs i) (live_upto hs (i + 1)) holders (λ id. upto_dead hs i id dead) was

and_both : (a b : Bool) → (a && b) ≡ true → (a ≡ true) × (b ≡ true)
and_both a b is = grind arith

pub slotted_live : (hs : List History) (holders : List ℕ) (strips : List PlacedStrip) (i : ℕ) → ((id : ℕ) → is_live hs id ≡ true → is_some (strip_of strips id) ≡ true) → length strips ≤ 64 → is_live hs 0 ≡ false → is_live hs (i + 1) ≡ true → AreSlotted (live_upto hs i) holders → AreSlotted (live_upto hs (i + 1)) (numbers_after holders (number_of holders 0) (i + 1))
slotted_live hs holders strips i placed few nobody live was =
    let less = shrinks strips (i + 1) (placed (i + 1) live) in
    let next_not : live_upto hs i (i + 1) ≡ false = (let e : nat_lt (i + 1) (i + 1) ≡ false = grind (arith, nat_tests) in rw e refl) in
    let zero_not : live_upto hs i 0 ≡ false = (let e : nat_lt 0 (i + 1) ≡ true = grind (arith, nat_tests) in rw (e, nobody) refl) in
    AreSlotted-same (λ id. if eqb id (i + 1) then true else live_upto hs i id) (live_upto hs (i + 1)) (numbers_after holders (number_of holders 0) (i + 1)) (λ id. upto_live hs i id live)
    (AreSlotted-given (live_upto hs i) holders (strips_without strips (i + 1)) (i + 1) was zero_not next_not (λ never. omega arith) (λ id is. others id is) (omega arith))
  where
    others : (id : ℕ) → live_upto hs i id ≡ true → is_some (strip_of (strips_without strips (i + 1)) id) ≡ true
    others id is =
        let both = and_both (nat_lt id (i + 1)) (is_live hs id) is in
        let below = both.0 in
        let e : eqb id (i + 1) ≡ false = grind (arith, nat_tests) in
        rw (strip_of-without strips (i + 1) id, e) (placed id both.1)

-- past the end of a journal
pub none_past : (s : ServiceState) (id : ℕ) → AreAlone s → slice_get (journal_of s id) 65536 ≡ None
none_past s id alone = slice_get_past (journal_of s id) 65536 (few_entries s id alone)

-- the account at its beginning
pub IsAccount-wrapped : (begun : ServiceState) (stay : Bool) (s : ServiceState) (marks : List Marked) (holders : List ℕ) (total parts amount whole put_total put_parts put_whole : ℕ) → begun ≡ s → length s.histories ≤ 65535 → marks ≡ replicate (length s.histories) no_marks → AreSlotted (is_live s.histories) holders →
    total ≡ 0 → parts ≡ 65536 → amount ≡ 0 → whole ≡ 65536 → put_total ≡ puts_in s.histories → put_parts ≡ 17 → put_whole ≡ 17 → IsAccount begun stay s marks holders (total, parts, amount, whole) (put_total, put_parts, put_whole) 0
IsAccount-wrapped begun stay s marks holders total parts amount whole put_total put_parts put_whole same few are slotted t p a w pt pp pw = grind (arith, length-replicate, places_of-none, places_sum-none, leases_in-none, Follows-same s)
