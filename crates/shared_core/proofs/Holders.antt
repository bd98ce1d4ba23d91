-- Slot numbers: a tenancy keeps its number, and with fewer than 64 strips there is a number that is
-- nobody's.
use Rattle.shared_core.proofs.Prelude.{◌≡◌, ◌≢◌, ℕ, zero, suc, ◌+◌, ◌<◌, ◌≤◌, List, [], ◌∷◌, length, set, get_or, Bool, true, false, eqb, Option, Some, None, refl, sym, ap, ◌∙◌, arith, if◌then◌else◌, is_some, slice_get, ◌==◌, position_or_len, nat_tests, Decides-eqb, length-set, position-Some, fails_before_first, slice_get-get_or, slice_get_within, get_or_from_slice_get, PlacedStrip, strip_of, strips_without, strip_of-without, AreSlotted, numbers_after, holder_of, if_somebody, number_of}
use Rattle.std.specs.Prelude.{replicate}

-- the numbers belong to the same tenancies
pub AreSlotted-same : (live live' : ℕ → Bool) (holders : List ℕ) → ((id : ℕ) → live' id ≡ live id) → AreSlotted live holders → AreSlotted live' holders
AreSlotted-same live live' holders same was = grind arith

-- a write at one index
slice_get-set : (xs : List ℕ) (n m v : ℕ) → n < length xs → slice_get (set xs n v) m ≡ (if eqb m n then Some v else slice_get xs m)
slice_get-set [] n m v lt = absurd (omega arith)
slice_get-set (x ∷ xs) zero zero v lt = refl
slice_get-set (x ∷ xs) zero (suc m) v lt = grind (arith, nat_tests)
slice_get-set (x ∷ xs) (suc n) zero v lt = grind (arith, nat_tests)
slice_get-set (x ∷ xs) (suc n) (suc m) v lt = grind (arith, nat_tests, slice_get-set xs n m v (omega arith))

-- the number of a tenancy is its index in the list
number_there : (holders : List ℕ) (id n : ℕ) → number_of holders id ≡ Some n → (n < length holders) × (slice_get holders n ≡ Some id)
number_there holders id n is = grind (arith, position-Some, slice_get-get_or, Decides-eqb (get_or holders n 0) id)

no_number : (holders : List ℕ) (id : ℕ) → number_of holders id ≡ None → length holders ≤ position_or_len (λ holder. holder == id) holders
no_number holders id none = grind (arith, nat_tests)

-- who holds a number has one
numbered : (holders : List ℕ) (id n : ℕ) → slice_get holders n ≡ Some id → is_some (number_of holders id) ≡ true
numbered holders id n at = by_option (number_of holders id) refl
  where
    by_option : (o : Option ℕ) → number_of holders id ≡ o → is_some o ≡ true
    by_option (Some k) e = refl
    by_option None e =
        let far : length holders ≤ position_or_len (λ holder. holder == id) holders = no_number holders id e in
        let within : n < length holders = slice_get_within holders n id at in
        let is : get_or holders n 0 ≡ id = get_or_from_slice_get holders n id 0 at in
        let fails : (get_or holders n 0 == id) ≡ false = fails_before_first (λ holder. holder == id) holders n 0 (omega arith) in
        absurd (grind (arith, nat_tests))

-- and a tenancy that has a number holds it
number_is : (holders : List ℕ) (id : ℕ) → is_some (number_of holders id) ≡ true → (n : ℕ) × (number_of holders id ≡ Some n)
number_is holders id some = grind arith

-- whose a number is
pub held : (holders : List ℕ) (n id : ℕ) → slice_get holders n ≡ Some id → id ≢ 0 → holder_of holders n ≡ Some id
held holders n id at some = rw at (grind (arith, nat_tests))

holds_in : (o : Option ℕ) (id : ℕ) → if_somebody o ≡ Some id → (o ≡ Some id) × (id ≢ 0)
holds_in o id is = grind arith

holds : (holders : List ℕ) (n id : ℕ) → holder_of holders n ≡ Some id → (slice_get holders n ≡ Some id) × (id ≢ 0)
holds holders n id is = holds_in (slice_get holders n) id is

some_is : (a b : ℕ) → Some a ≡ Some b → a ≡ b
some_is a b is = cc

-- one number is handed over
record Written (holders new : List ℕ) (n v : ℕ) : Type 0 where
  count : length new ≡ length holders
  here : slice_get new n ≡ Some v
  there : (m : ℕ) → m ≢ n → slice_get new m ≡ slice_get holders m

written : (holders : List ℕ) (n v : ℕ) → n < length holders → Written holders (set holders n v) n v
written holders n v lt = grind (arith, length-set, slice_get-set)

by_place : (Q : Type 0) (m n : ℕ) → (m ≡ n → Q) → (m ≢ n → Q) → Q
by_place Q m n same differ = grind arith

-- a number that was nobody's is a new tenancy's
given_number : (live : ℕ → Bool) (holders new : List ℕ) (n id : ℕ) → AreSlotted live holders → live 0 ≡ false → live id ≡ false → id ≢ 0 → slice_get holders n ≡ Some 0 → Written holders new n id → AreSlotted (λ other. if eqb other id then true else live other) new
given_number live holders new n id was nobody fresh some free w = record {
  count = w.count ∙ was.count;
  each = λ other is. by_place (is_some (number_of new other) ≡ true) other id
      (λ same. numbered new other n (w.here ∙ ap Some (sym same)))
      (λ differ.
      let e : eqb other id ≡ false = grind (arith, nat_tests) in
      let old_live : live other ≡ true = rw e at is in
      let got = number_is holders other (was.each other old_live) in
      let at = (number_there holders other got.0 got.1).1 in
      let apart : got.0 ≢ n = λ same. (let zero_is : Some other ≡ Some 0 = sym at ∙ (ap (slice_get holders) same ∙ free) in let z = some_is other 0 zero_is in let dead : live other ≡ false = ap live z ∙ nobody in absurd (cc)) in
      numbered new other got.0 (w.there got.0 apart ∙ at));
  only = λ m other is. by_place ((if eqb other id then true else live other) ≡ true) m n
      (λ same. let got = holds new m other is in let its : Some other ≡ Some id = sym got.0 ∙ (ap (slice_get new) same ∙ w.here) in let e : eqb other id ≡ true = (let z = some_is other id its in grind (arith, nat_tests)) in rw e refl)
      (λ differ. let l = was.only m other (there_was m other differ is) in elim (eqb other id) as (λ b. (if b then true else live other) ≡ true) [ true ↦ refl | false ↦ l ]);
  once = λ m k other is also. by_place (m ≡ k) m n
      (λ same. by_place (m ≡ k) k n
      (λ too. same ∙ sym too)
      (λ differ.
      let got = holds new m other is in
      let its : Some other ≡ Some id = sym got.0 ∙ (ap (slice_get new) same ∙ w.here) in
      let z = some_is other id its in
      let l : live other ≡ true = was.only k other (there_was k other differ also) in
      let dead : live other ≡ false = ap live z ∙ fresh in
      absurd (cc)))
      (λ differ. by_place (m ≡ k) k n
      (λ same.
      let got = holds new k other also in
      let its : Some other ≡ Some id = sym got.0 ∙ (ap (slice_get new) same ∙ w.here) in
      let z = some_is other id its in
      let l : live other ≡ true = was.only m other (there_was m other differ is) in
      let dead : live other ≡ false = ap live z ∙ fresh in
      absurd (cc))
      (λ apart. was.once m k other (there_was m other differ is) (there_was k other apart also)));
}
  where
    there_was : (m other : ℕ) → m ≢ n → holder_of new m ≡ Some other → holder_of holders m ≡ Some other
    there_was m other differ is = ap if_somebody (sym (w.there m differ)) ∙ is

-- and the number of a tenancy that ends is nobody's
freed_number : (live : ℕ → Bool) (holders new : List ℕ) (n id : ℕ) → AreSlotted live holders → id ≢ 0 → slice_get holders n ≡ Some id → Written holders new n 0 → AreSlotted (λ other. if eqb other id then false else live other) new
freed_number live holders new n id was some at w = record {
  count = w.count ∙ was.count;
  each = λ other is. by_place (is_some (number_of new other) ≡ true) other id
      (λ same. let e : eqb other id ≡ true = grind (arith, nat_tests) in let never : false ≡ true = rw e at is in absurd (cc))
      (λ differ.
      let e : eqb other id ≡ false = grind (arith, nat_tests) in
      let old_live : live other ≡ true = rw e at is in
      let got = number_is holders other (was.each other old_live) in
      let here = (number_there holders other got.0 got.1).1 in
      let apart : got.0 ≢ n = λ same. differ (some_is other id (sym here ∙ (ap (slice_get holders) same ∙ at))) in
      numbered new other got.0 (w.there got.0 apart ∙ here));
  only = λ m other is. by_place ((if eqb other id then false else live other) ≡ true) m n
      (λ same. absurd (gone m other same is))
      (λ differ.
      let l = was.only m other (there_was m other differ is) in
      let apart : other ≢ id = λ same. differ (was.once m n other (there_was m other differ is) (held holders n other (at ∙ ap Some (sym same)) (holds new m other is).1)) in
      let e : eqb other id ≡ false = grind (arith, nat_tests) in
      rw e l);
  once = λ m k other is also. by_place (m ≡ k) m n
      (λ same. absurd (gone m other same is))
      (λ differ. by_place (m ≡ k) k n
      (λ same. absurd (gone k other same also))
      (λ apart. was.once m k other (there_was m other differ is) (there_was k other apart also)));
}
  where
    there_was : (m other : ℕ) → m ≢ n → holder_of new m ≡ Some other → holder_of holders m ≡ Some other
    there_was m other differ is = ap if_somebody (sym (w.there m differ)) ∙ is

    gone : (m other : ℕ) → m ≡ n → holder_of new m ≡ Some other → ⊥
    gone m other same is = let got = holds new m other is in got.1 (some_is other 0 (sym got.0 ∙ (ap (slice_get new) same ∙ w.here)))

-- the numbers in use are at most as many as the strips
fewer : (strips : List PlacedStrip) (id : ℕ) → length (strips_without strips id) ≤ length strips
fewer [] id = omega arith
fewer (s ∷ strips) id = grind (arith, nat_tests, fewer strips id)

pub shrinks : (strips : List PlacedStrip) (id : ℕ) → is_some (strip_of strips id) ≡ true → length (strips_without strips id) + 1 ≤ length strips
shrinks [] id some = cc
shrinks (s ∷ strips) id some =
    elim (eqb s.id id) as (λ b. eqb s.id id ≡ b → is_some (if b then Some s else strip_of strips id) ≡ true → length (strips_without (s ∷ strips) id) + 1 ≤ length (s ∷ strips)) [
      | true ↦ λ e here. rw e (let few = fewer strips id in omega arith)
      | false ↦ λ e there. rw e (let few = shrinks strips id there in omega arith)
    ] refl some

as_many : (ids : List ℕ) (strips : List PlacedStrip) → ((n m id : ℕ) → slice_get ids n ≡ Some id → slice_get ids m ≡ Some id → n ≡ m) → ((n id : ℕ) → slice_get ids n ≡ Some id → is_some (strip_of strips id) ≡ true) → length ids ≤ length strips
as_many [] strips once there = omega arith
as_many (x ∷ ids) strips once there =
    let less = shrinks strips x (there 0 x refl) in
    let rest = as_many ids (strips_without strips x) (λ n m id at also. suc_is n m (once (suc n) (suc m) id at also)) (λ n id at. other n id at) in
    omega arith
  where
    suc_is : (n m : ℕ) → suc n ≡ suc m → n ≡ m
    suc_is n m is = omega arith

    other : (n id : ℕ) → slice_get ids n ≡ Some id → is_some (strip_of (strips_without strips x) id) ≡ true
    other n id at =
        let differ : id ≢ x = λ same. (let zero_is : suc n ≡ 0 = once (suc n) 0 x (at ∙ ap Some same) refl in omega arith) in
        let e : eqb id x ≡ false = grind (arith, nat_tests) in
        rw (strip_of-without strips x id, e) (there (suc n) id at)

-- a number is nobody's, if there are fewer than 64 strips
pub free_number : (live : ℕ → Bool) (holders : List ℕ) (strips : List PlacedStrip) → AreSlotted live holders → ((id : ℕ) → live id ≡ true → is_some (strip_of strips id) ≡ true) → length strips < 64 → (n : ℕ) × (number_of holders 0 ≡ Some n)
free_number live holders strips was placed few = by_option (number_of holders 0) refl
  where
    by_option : (o : Option ℕ) → number_of holders 0 ≡ o → (n : ℕ) × (number_of holders 0 ≡ Some n)
    by_option (Some n) e = (n, e)
    by_option None e =
        let some : (n id : ℕ) → slice_get holders n ≡ Some id → id ≢ 0 = λ n id at zero_is. (let never : is_some (number_of holders 0) ≡ true = numbered holders 0 n (at ∙ ap Some zero_is) in let no : is_some (number_of holders 0) ≡ false = ap is_some e in absurd (cc)) in
        let many = as_many holders strips (λ n m id at also. was.once n m id (held holders n id at (some n id at)) (held holders m id also (some m id also))) (λ n id at. placed id (was.only n id (held holders n id at (some n id at)))) in
        let all = was.count in
        absurd (omega arith)

-- a tenancy gets a number
pub AreSlotted-given : (live : ℕ → Bool) (holders : List ℕ) (strips : List PlacedStrip) (id : ℕ) → AreSlotted live holders → live 0 ≡ false → live id ≡ false → id ≢ 0 → ((other : ℕ) → live other ≡ true → is_some (strip_of strips other) ≡ true) → length strips < 64 → AreSlotted (λ other. if eqb other id then true else live other) (numbers_after holders (number_of holders 0) id)
AreSlotted-given live holders strips id was nobody fresh some placed few =
    let free = free_number live holders strips was placed few in
    let at = number_there holders 0 free.0 free.1 in
    rw free.1 (given_number live holders (set holders free.0 id) free.0 id was nobody fresh some at.1 (written holders free.0 id at.0))

-- and gives it back
pub AreSlotted-freed : (live : ℕ → Bool) (holders : List ℕ) (id : ℕ) → AreSlotted live holders → live id ≡ true → id ≢ 0 → AreSlotted (λ other. if eqb other id then false else live other) (numbers_after holders (number_of holders id) 0)
AreSlotted-freed live holders id was is some =
    let got = number_is holders id (was.each id is) in
    let at = number_there holders id got.0 got.1 in
    rw got.1 (freed_number live holders (set holders got.0 0) got.0 id was some at.1 (written holders got.0 0 at.0))

-- the numbers at the beginning
slice_get-none : (n m id : ℕ) → slice_get (replicate {A = ℕ} n 0) m ≡ Some id → id ≡ 0
slice_get-none zero m id at = cc
slice_get-none (suc n) zero id at = cc
slice_get-none (suc n) (suc m) id at = slice_get-none n m id at

pub AreSlotted-none : AreSlotted (λ id. false) (replicate {A = ℕ} 64 0)
AreSlotted-none = record {
  count = refl;
  each = λ id never. cc;
  only = λ n id is. let got = holds (replicate {A = ℕ} 64 0) n id is in absurd (got.1 (slice_get-none 64 n id got.0));
  once = λ n m id is also. let got = holds (replicate {A = ℕ} 64 0) n id is in absurd (got.1 (slice_get-none 64 n id got.0));
}
