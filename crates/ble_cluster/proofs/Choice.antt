-- The first number with the greatest score, as a relation.
use Rattle.ble_cluster.proofs.Prelude.{◌≡◌, ℕ, suc, zero, ◌&&◌, ◌+◌, ◌<◌, Bool, true, ◌||◌, ◌==◌, List, [], ◌∷◌, Some, None, filter, refl, arith, ⊤, range_with_len, eqb-true, nat_tests, LeadsOver, has, first_most, leader_of}

-- the number is below all later ones
abbrev pub IsBelow : ℕ → List ℕ → Type 0
IsBelow low [] = ⊤
IsBelow low (number ∷ numbers) = (low < number) × IsBelow low numbers

abbrev pub IsRising : List ℕ → Type 0
IsRising [] = ⊤
IsRising (number ∷ numbers) = IsBelow number numbers × IsRising numbers

-- a number that is not the first is among the others
not_first : (first number : ℕ) (others : Bool) → (first == number) || others ≡ true → (first ≡ number → ⊥) → others ≡ true
not_first first number others h differs = grind arith

among : (first number : ℕ) (others : Bool) → others ≡ true → (first == number) || others ≡ true
among first number others h = grind (arith, h)

itself : (first : ℕ) (others : Bool) → (first == first) || others ≡ true
itself first others = grind (arith, nat_tests)

-- the number that leads over all is the one that is found
leads : (score : ℕ → ℕ) (best number : ℕ) (numbers : List ℕ) → IsBelow best numbers → IsRising numbers → has (best ∷ numbers) number ≡ true
    → ((other : ℕ) → has (best ∷ numbers) other ≡ true → LeadsOver score number other) → leader_of score best numbers ≡ number
leads score best number [] b r h l = eqb-true best number (grind (arith, h))
leads score best number (next ∷ numbers) b r h l = search (among, nat_tests, leads score next number numbers r.0 r.1, leads score best number numbers b.1 r.1, arith)

-- of increasing numbers, the one that leads over all is the first with the greatest score
pub first_most-is : (score : ℕ → ℕ) (numbers : List ℕ) (number : ℕ) → IsRising numbers → has numbers number ≡ true
    → ((other : ℕ) → has numbers other ≡ true → LeadsOver score number other) → first_most score numbers ≡ Some number
first_most-is score numbers number r h l = grind (arith, leads)

-- an empty list has no greatest
pub first_most-none : (score : ℕ → ℕ) (numbers : List ℕ) → ((other : ℕ) → has numbers other ≡ true → ⊥) → first_most score numbers ≡ None
first_most-none score [] h = refl
first_most-none score (first ∷ numbers) h = absurd (h first (itself first (has numbers first)))

below-filter : (test : ℕ → Bool) (low : ℕ) (numbers : List ℕ) → IsBelow low numbers → IsBelow low (filter test numbers)
below-filter test low [] b = tt
below-filter test low (number ∷ numbers) b = grind (arith, below-filter test low numbers b.1)

pub rising-filter : (test : ℕ → Bool) (numbers : List ℕ) → IsRising numbers → IsRising (filter test numbers)
rising-filter test [] r = tt
rising-filter test (number ∷ numbers) r = grind (arith, below-filter, rising-filter test numbers r.1)

pub has-filter : (test : ℕ → Bool) (numbers : List ℕ) (number : ℕ) → has (filter test numbers) number ≡ (test number && has numbers number)
has-filter test [] number = grind arith
has-filter test (other ∷ numbers) number = grind (arith, has-filter test numbers number)

range_below : (low start count : ℕ) → low < start → IsBelow low (range_with_len start count)
range_below low start zero l = tt
range_below low start (suc count) l = (l, range_below low (start + 1) count (omega (arith, l)))

pub rising-range : (start count : ℕ) → IsRising (range_with_len start count)
rising-range start zero = tt
rising-range start (suc count) = (range_below start (start + 1) count (omega arith), rising-range (start + 1) count)
