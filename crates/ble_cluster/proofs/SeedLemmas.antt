-- The seed: the first free BLE with most inputs.
use Rattle.ble_cluster.proofs.Prelude.{◌≡◌, ℕ, ◌<◌, Bool, true, false, List, ◌++◌, take, drop, Option, Some, IfSome, length, sym, subst, ◌∙◌, arith, has, LogicElement, taken_at, first_most, input_count_at, FirstFree, AreLacks, IsFirstFree, IsKept, IsLowest, IsSeeded, take-append-le, take_all, free_in}
use Rattle.ble_cluster.proofs.Choice.{first_most-is, first_most-none, has-filter, rising-filter, rising-range}
use Rattle.ble_cluster.proofs.Choosing.{first_most_lawful, free_within}
use Rattle.ble_cluster.proofs.ChoosingLemmas.{has-range, in-range}

-- the number is one of a BLE that is not taken
pub record IsFree (taken : List Bool) (number : ℕ) : Type 0 where
  pub small : number < length taken
  pub free : taken_at taken number ≡ false

free_of : (taken : List Bool) (number : ℕ) → has (free_in taken) number ≡ true → IsFree taken number
free_of taken number there = grind (arith, has-filter, has-range)

there_free : (taken : List Bool) (number : ℕ) → number < length taken → taken_at taken number ≡ false → has (free_in taken) number ≡ true
there_free taken number small free = grind (arith, has-filter, in-range)

-- the free BLE with the lowest key is the first with most inputs
pub seed_is : (elements : List LogicElement) (taken : List Bool) (keys : List ℕ) (seed : Option ℕ) → AreLacks elements keys → length taken ≡ length elements → IsLowest taken keys seed → seed ≡ first_most (input_count_at elements) (free_in taken)
seed_is elements taken keys seed lacks marks none = grind (arith, first_most-none, free_of, first_most-is, rising-filter, rising-range, there_free)

-- the seed is one of the BLEs
pub seed_within : (score : ℕ → ℕ) (taken : List Bool) (seed : ℕ) → Some seed ≡ first_most score (free_in taken) → seed < length taken
seed_within score taken seed is = subst (λ o. IfSome o (λ number. number < length taken)) (sym is) (first_most_lawful (λ number. number < length taken) score (free_in taken) (free_within taken))

-- the indices are still correct after more BLEs are taken
pub seeded_on : (elements : List LogicElement) (old new : List Bool) (by_lack now by_outside : FirstFree) (before seed : Option ℕ) → length old ≡ length elements → IsSeeded elements old by_lack by_outside before → IsKept old new
    → now.keys.items ≡ by_lack.keys.items → IsFirstFree new now → IsLowest new by_lack.keys.items seed → IsSeeded elements new now by_outside seed
seeded_on elements old new by_lack now by_outside before seed marks seeded kept keys lawful lowest = grind (arith, seed_is elements new by_lack.keys.items seed seeded.lacks (kept.count ∙ marks) lowest)

-- a slice that is written back
pub written : (new old : List Bool) (len : ℕ) → length new ≡ length old → len ≡ length old → take len (new ++ drop (length new) old) ≡ new
written new old len same is = take-append-le len new (drop (length new) old) (omega (arith, same, is)) ∙ take_all len new (omega (arith, same, is))
