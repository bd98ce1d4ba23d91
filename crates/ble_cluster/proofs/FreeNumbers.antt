-- The least free numbers within bounds.
use Rattle.ble_cluster.proofs.Prelude.{◌≡◌, ℕ, ◌+◌, ◌<◌, ◌≤◌, Bool, true, false, not, ◌&&◌, nat_le, List, All, Option, Some, None, length, set, arith, below_more, length-set, get_or-set_other, is_some, nat_tests, get_or-set_at, get_or_past, FirstFree, taken_at, LogicElement, AreAbove, AreByOutside, IsFirstFree, IsFirstWithin, IsKept, IsLowest, key_at}

-- one more number, which is taken or above the bound
pub above_more : (taken : List Bool) (keys : List ℕ) (bound number : ℕ) → AreAbove taken keys bound number → false ≡ (not (taken_at taken number) && nat_le (key_at keys number) bound) → AreAbove taken keys bound (number + 1)
above_more taken keys bound number above fails = below_more _ _ above (λ free. grind (arith, nat_tests, fails, free))

-- a free number within the bound is the least
pub least_here : (taken : List Bool) (keys : List ℕ) (bound number : ℕ) → number < length keys → AreAbove taken keys bound number → true ≡ (not (taken_at taken number) && nat_le (key_at keys number) bound) → IsFirstWithin taken keys bound (Some number)
least_here taken keys bound number small above passes = grind arith

-- if all numbers were passed over, no free number is within the bound
pub none_within : (taken : List Bool) (keys : List ℕ) (bound end : ℕ) → length keys ≤ end → AreAbove taken keys bound end → IsFirstWithin taken keys bound None
none_within taken keys bound end all above = λ number small free. above number (omega (arith, small, all)) free

-- no free number has a key below the bound
abbrev pub AreFrom : List Bool → List ℕ → ℕ → Type 0
AreFrom taken keys bound = (number : ℕ) → number < length keys → taken_at taken number ≡ false → bound ≤ key_at keys number

-- if no free number has this key, all have keys from the next one on
pub from_next : (taken : List Bool) (keys : List ℕ) (bound : ℕ) (first : Option ℕ) → is_some first ≡ false → IsFirstWithin taken keys bound first → AreFrom taken keys (bound + 1)
from_next taken keys bound first none above = grind arith

-- if some free number has this key, the first of them is the lowest
pub lowest_here : (taken : List Bool) (keys : List ℕ) (bound : ℕ) (first : Option ℕ) → is_some first ≡ true → AreFrom taken keys bound → IsFirstWithin taken keys bound first → IsLowest taken keys first
lowest_here taken keys bound first some from is = grind arith

-- once all bounds were passed, no number is free
pub none_free : (taken : List Bool) (keys : List ℕ) (count : ℕ) → All (λ key. key < count) keys → AreFrom taken keys count → IsLowest taken keys None
none_free taken keys count bounds from = grind arith

-- the index finds the same BLEs after a search
pub found_on : (bles : List LogicElement) (taken : List Bool) (old new : FirstFree) → AreByOutside bles taken old → new.keys.items ≡ old.keys.items → IsFirstFree taken new → AreByOutside bles taken new
found_on bles taken old new found keys free = record { few = found.few; taken = found.taken; counts = rw keys found.counts; free = free }

-- one more number is taken
pub kept_more : (old now : List Bool) (number : ℕ) → IsKept old now → IsKept old (set now number true)
kept_more old now number k = grind (arith, length-set, get_or-set_at, get_or_past, get_or-set_other)
