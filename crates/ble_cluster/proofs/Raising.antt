-- Counts that are increased.
use Rattle.ble_cluster.proofs.Prelude.{◌≡◌, ℕ, suc, zero, ◌+◌, ◌<◌, ◌≤◌, false, ◌==◌, List, [], ◌∷◌, length, take, drop, set, get_or, refl, arith, get_or-set_same, get_or-set_other, length-set, drop_all, drop_more, take_more, nat_tests, eqb_tells, IsOnce, has, AreRaised, AreTouched, ShareNothing, gain_at}
use Rattle.ble_cluster.proofs.Outside.{has-append}

-- a number that isn't in the list is not at any index
pub not_at : (numbers : List ℕ) (place number : ℕ) → place < length numbers → has numbers number ≡ false → (get_or numbers place 0 == number) ≡ false
not_at [] place number small h = absurd (omega (arith, small))
not_at (other ∷ numbers) zero number small h = grind (arith, h)
not_at (other ∷ numbers) (suc place) number small h = not_at numbers place number (omega (arith, small)) (grind (arith, h))

turned : (a b : ℕ) → (a == b) ≡ false → (b == a) ≡ false
turned a b h = grind (arith, nat_tests, h)

-- a number that occurs once doesn't occur among those before it
pub once_before : (numbers : List ℕ) (place : ℕ) → place < length numbers → IsOnce numbers → has (take place numbers) (get_or numbers place 0) ≡ false
once_before [] place small once = absurd (omega (arith, small))
once_before (number ∷ numbers) zero small once = refl
once_before (number ∷ numbers) (suc place) small once = grind (arith, not_at, once_before numbers place (omega (arith, small)) once.1)

-- one more count is increased
pub raised_more : (old now numbers : List ℕ) (place : ℕ) → place < length numbers → get_or numbers place 0 < length old → IsOnce numbers → AreRaised old now (take place numbers)
    → AreRaised old (set now (get_or numbers place 0) (gain_at now (get_or numbers place 0) + 1)) (take (place + 1) numbers)
raised_more old now numbers place small within once r = grind (arith, eqb_tells, has-append, get_or-set_same, once_before, take_more, nat_tests, get_or-set_other, length-set now (get_or numbers place 0) (gain_at now (get_or numbers place 0) + 1), once_before numbers place small once, take_more numbers place 0 small)

-- only BLEs from an index of the list on still share a net
pub record AreLeft (touched : List ℕ) (place : ℕ) (old gains : List ℕ) : Type 0 where
  pub count : length gains ≡ length old
  pub others : (number : ℕ) → number < length old → has (drop place touched) number ≡ false → gain_at gains number ≡ 0

-- at first these are all touched BLEs
pub left_first : (touched gains : List ℕ) → AreTouched gains touched → AreLeft touched 0 gains gains
left_first touched gains t = record { count = refl; others = λ number small h. let e = t.touches number small in grind (arith, nat_tests, e, h) }

-- the next count is set to 0
pub left_next : (touched : List ℕ) (place : ℕ) (old gains : List ℕ) → place < length touched → get_or touched place 0 < length old → AreLeft touched place old gains → AreLeft touched (place + 1) old (set gains (get_or touched place 0) 0)
left_next touched place old gains small within left = grind (arith, length-set, get_or-set_same, get_or-set_other, drop_more)

-- at the end no BLE shares a net
pub left_none : (touched : List ℕ) (place : ℕ) (old gains : List ℕ) → length touched ≤ place → AreLeft touched place old gains → ShareNothing gains
left_none touched place old gains past left = λ number small. left.others number (omega (arith, small, left.count)) (rw (drop_all place touched past) refl)
