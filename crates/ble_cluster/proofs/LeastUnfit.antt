-- The least BLE that doesn't fit alone.
use Rattle.ble_cluster.proofs.Prelude.{◌≡◌, ℕ, suc, ◌+◌, ◌-◌, ◌<◌, ◌≤◌, Bool, true, false, not, ◌==◌, List, [], ◌∷◌, Some, filter, length, slice_get, if◌then◌else◌, ap, ◌∙◌, arith, find, range_with_len, Arch, IsArch, input_count, LogicElement, element_at, fits_in_cluster, IsElement}
use Rattle.ble_cluster.proofs.Choosing.{element_is}
use Rattle.ble_cluster.proofs.Elements.{alone_fits}

-- the remaining numbers begin with the next one
range_first : (n count : ℕ) → n < count → range_with_len n (count - n) ≡ n ∷ range_with_len (n + 1) (count - (n + 1))
range_first n count h = let e : count - n ≡ suc (count - (n + 1)) = omega (arith, h) in ap (range_with_len n) e

-- the next number passes the test, or the search continues
pub found_here : (test : ℕ → Bool) (n count : ℕ) → n < count → test n ≡ true → find test (range_with_len n (count - n)) ≡ Some n
found_here test n count h passes = ap (find test) (range_first n count h) ∙ ap (λ b. if b then Some n else find test (range_with_len (n + 1) (count - (n + 1)))) passes

pub found_later : (test : ℕ → Bool) (n count : ℕ) → n < count → test n ≡ false → find test (range_with_len n (count - n)) ≡ find test (range_with_len (n + 1) (count - (n + 1)))
found_later test n count h fails = ap (find test) (range_first n count h) ∙ ap (λ b. if b then Some n else find test (range_with_len (n + 1) (count - (n + 1)))) fails

-- the BLE has more outside inputs than there are pins, or not
pub unfit_wide : (arch : Arch) (nets : ℕ) (elements : List LogicElement) (n : ℕ) (element : LogicElement) (outside pins : ℕ) → IsArch arch → IsElement nets element → slice_get elements n ≡ Some element → outside ≡ length (filter (λ net. not (net == element.output)) element.inputs) → pins ≡ input_count arch.pins → pins < outside → not (fits_in_cluster arch (element_at elements n ∷ [])) ≡ true
unfit_wide arch nets elements n element outside pins profile is at count pins_are wide = grind (arith, element_is elements n element, alone_fits arch nets element profile is)

pub fit_narrow : (arch : Arch) (nets : ℕ) (elements : List LogicElement) (n : ℕ) (element : LogicElement) (outside pins : ℕ) → IsArch arch → IsElement nets element → slice_get elements n ≡ Some element → outside ≡ length (filter (λ net. not (net == element.output)) element.inputs) → pins ≡ input_count arch.pins → outside ≤ pins → not (fits_in_cluster arch (element_at elements n ∷ [])) ≡ false
fit_narrow arch nets elements n element outside pins profile is at count pins_are narrow = grind (arith, element_is elements n element, alone_fits arch nets element profile is)
