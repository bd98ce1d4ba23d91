-- Numbers of BLEs in order, the free ones among them, and the chosen one.
use Rattle.ble_cluster.proofs.Prelude.{◌≡◌, ℕ, zero, suc, ◌+◌, ◌-◌, ◌<◌, ◌≤◌, Bool, true, false, not, List, [], ◌∷◌, Some, None, All, IfSome, filter, length, refl, ap, subst, ◌∙◌, arith, slice_get, slice_index_or, range_with_len, append-nil, get_or-replicate, length-replicate, length-range_with_len, get_or-range_with_len, All-filter, All-from_get_or, get_or_from_slice_get, Arch, LogicElement, element_at, first_most, members_after, next_member, free_in}
use Rattle.std.specs.Prelude.{replicate}
use Rattle.ble_cluster.proofs.Leading.{leading_lawful}

-- numbers below a count
pub range_within : (n : ℕ) → All (λ number. number < n) (range_with_len 0 n)
range_within n = All-from_get_or (λ number. number < n) (range_with_len 0 n) 0 (λ i h. let within : i < n = omega (arith, h, length-range_with_len 0 n) in let e = get_or-range_with_len 0 n i 0 within in omega (arith, within, e))

pub free_within : (taken : List Bool) → All (λ number. number < length taken) (free_in taken)
free_within taken = All-filter (λ number. not (slice_index_or taken number true)) (λ number. number < length taken) (range_with_len 0 (length taken)) (range_within (length taken))

-- the chosen number is one of the numbers
pub first_most_lawful : (P : ℕ → Type 0) (score : ℕ → ℕ) (numbers : List ℕ) → All P numbers → IfSome (first_most score numbers) P
first_most_lawful P score [] all = tt
first_most_lawful P score (number ∷ numbers) all = leading_lawful P score number numbers (all 0 number (omega arith)) (λ k d h. all (suc k) d (omega (arith, h)))

-- if none is taken, all are free
filter_all : (test : ℕ → Bool) (numbers : List ℕ) → All (λ number. test number ≡ true) numbers → filter test numbers ≡ numbers
filter_all test [] all = refl
filter_all test (number ∷ numbers) all = rw (all 0 number (omega arith)) (ap (λ ns. number ∷ ns) (filter_all test numbers (λ k d h. all (suc k) d (omega (arith, h)))))

pub free_at_first : (n : ℕ) → free_in (replicate n false) ≡ range_with_len 0 n
free_at_first n = grind (arith, length-replicate, filter_all, length-range_with_len, get_or-range_with_len, get_or-replicate)

-- the BLE with a number
pub element_is : (elements : List LogicElement) (number : ℕ) (element : LogicElement) → slice_get elements number ≡ Some element → element_at elements number ≡ element
element_is elements number element at = get_or_from_slice_get elements number element _ at

pub element_lawful : (P : LogicElement → Type 0) (elements : List LogicElement) (number : ℕ) (element : LogicElement) → number < length elements → slice_get elements number ≡ Some element → All P elements → P element
element_lawful P elements number element within at all = subst P (get_or_from_slice_get elements number element element at) (all number element within)

-- once no BLE may be added, the cluster no longer changes
stays : (arch : Arch) (elements : List LogicElement) (free seed : List ℕ) (n more later : ℕ) → later ≡ more + n → next_member arch elements free (members_after arch elements free seed n) ≡ None → members_after arch elements free seed later ≡ members_after arch elements free seed n
stays arch elements free seed n zero later is none = let e : later ≡ n = omega (arith, is) in ap (members_after arch elements free seed) e
stays arch elements free seed n (suc more) later is none =
    let e : later ≡ suc (more + n) = omega (arith, is) in
    let before = stays arch elements free seed n more (more + n) refl none in
    ap (members_after arch elements free seed) e ∙ rw before (rw none (append-nil (members_after arch elements free seed n)))

pub grown_full : (arch : Arch) (elements : List LogicElement) (free seed : List ℕ) (n later : ℕ) → n ≤ later → next_member arch elements free (members_after arch elements free seed n) ≡ None → members_after arch elements free seed later ≡ members_after arch elements free seed n
grown_full arch elements free seed n later h none = stays arch elements free seed n (later - n) later (omega (arith, h)) none
