-- The keys of BLEs, one after another.
use Rattle.ble_cluster.proofs.Prelude.{◌≡◌, ℕ, ◌+◌, ◌<◌, ◌≤◌, List, All, Some, length, slice_get, ap, arith, All-from_get_or, length-filter, count_by-le-length, LogicElement, element_at, input_count_at, AreLacks, HaveAtMost, key_at, own_outside, IsElement}
use Rattle.ble_cluster.proofs.ElementLemmas.{inputs_once}
use Rattle.ble_cluster.proofs.GrowingLemmas.{once_few}
use Rattle.ble_cluster.proofs.Choosing.{element_is}

-- the number of inputs of a BLE that a lookup returned is within the limit
pub inputs_few : (elements : List LogicElement) (nets number : ℕ) → nets ≤ 8192 → All (IsElement nets) elements → number < length elements → input_count_at elements number ≤ 8192
inputs_few elements nets number few lawful small =
    let e : IsElement nets (element_at elements number) = lawful number _ small in
    omega (arith, once_few (element_at elements number).inputs nets (inputs_once _ e) e.inputs, few)

pub count_is : (elements : List LogicElement) (number : ℕ) (element : LogicElement) → slice_get elements number ≡ Some element → input_count_at elements number ≡ length element.inputs
count_is elements number element at = ap (λ (e : LogicElement). length e.inputs) (element_is elements number element at)

pub outside_is : (elements : List LogicElement) (number : ℕ) (element : LogicElement) → slice_get elements number ≡ Some element → length (own_outside (element_at elements number)) ≡ length (own_outside element)
outside_is elements number element at = ap (λ (e : LogicElement). length (own_outside e)) (element_is elements number element at)

-- the nets read from outside are at most the nets that are read
pub outside_few : (element : LogicElement) → length (own_outside element) ≤ length element.inputs
outside_few element = grind (arith, length-filter, count_by-le-length)

-- no key is above the greatest
pub lacks_within : (elements : List LogicElement) (keys : List ℕ) (most : ℕ) → length keys ≡ length elements → ((number : ℕ) → number < length elements → key_at keys number + input_count_at elements number ≡ most) → All (λ key. key ≤ most) keys
lacks_within elements keys most count sum = All-from_get_or (λ key. key ≤ most) keys 0 (λ number small. omega (arith, sum number (omega (arith, small, count))))

pub counts_within : (elements : List LogicElement) (keys : List ℕ) (most : ℕ) → HaveAtMost elements most → length keys ≡ length elements → ((number : ℕ) → number < length elements → key_at keys number ≡ length (own_outside (element_at elements number))) → All (λ key. key ≤ most) keys
counts_within elements keys most few count counted = All-from_get_or (λ key. key ≤ most) keys 0 (λ number small.
    let inside : number < length elements = omega (arith, small, count) in
    omega (arith, counted number inside, outside_few (element_at elements number), few.each number inside))

pub are_lacks : (elements : List LogicElement) (keys : List ℕ) (most : ℕ) → length keys ≡ length elements → ((number : ℕ) → number < length elements → key_at keys number + input_count_at elements number ≡ most) → AreLacks elements keys
are_lacks elements keys most count sum = record { most = most; count = count; sum = sum }
