-- Sets by stamps, and lists of whether each number is in a set.
use Rattle.layout_check.proofs.Prelude.{◌≡◌, ℕ, zero, suc, ◌+◌, ◌<◌, ◌≤◌, Bool, true, false, not, List, [], ◌∷◌, map, set, get_or, length, replicate, eqb, ap, refl, ◌∙◌, arith, ◌⊎◌, All, Contains, count_by, false≢true, nat_tests, get_or-set_same, get_or-set_other, length-set, map-set, All-head, All-tail, sum_by-set, is_in}

same : (epoch : ℕ) → eqb epoch epoch ≡ true
same epoch = grind (arith, nat_tests)

-- a stamp at the current epoch adds a number
pub stamped : (epoch : ℕ) (stamps : List ℕ) (number : ℕ) → map (λ stamp. eqb stamp epoch) (set stamps number epoch) ≡ set (map (λ stamp. eqb stamp epoch) stamps) number true
stamped epoch stamps number = map-set (λ stamp. eqb stamp epoch) stamps number epoch ∙ ap (λ is. set (map (λ stamp. eqb stamp epoch) stamps) number is) (same epoch)

-- no stamp is of a later epoch
pub all_old : (epoch later : ℕ) (stamps : List ℕ) → epoch < later → All (λ stamp. stamp ≤ epoch) stamps → map (λ stamp. eqb stamp later) stamps ≡ replicate (length stamps) false
all_old epoch later [] less all = refl
all_old epoch later (stamp ∷ stamps) less all = grind (arith, All-head, all_old epoch later stamps less (All-tail (λ stamp. stamp ≤ epoch) stamp stamps all))

-- unused stamps
pub none_stamped : (count : ℕ) → map (λ stamp. eqb stamp 1) (replicate count 0) ≡ replicate count false
none_stamped zero = refl
none_stamped (suc count) = ap (λ rest. false ∷ rest) (none_stamped count)

-- ---- sets

pub in_empty : (count number : ℕ) → is_in (replicate count false) number ≡ false
in_empty zero number = refl
in_empty (suc count) zero = refl
in_empty (suc count) (suc number) = in_empty count number

pub is_within : (marks : List Bool) (number : ℕ) → is_in marks number ≡ true → number < length marks
is_within [] number is = absurd (false≢true is)
is_within (mark ∷ marks) zero is = omega arith
is_within (mark ∷ marks) (suc number) is = let rest = is_within marks number is in omega (arith, rest)

pub added : (marks : List Bool) (number : ℕ) → number < length marks → is_in (set marks number true) number ≡ true
added marks number small = get_or-set_same marks number true false small

pub kept : (marks : List Bool) (number other : ℕ) → is_in marks other ≡ true → is_in (set marks number true) other ≡ true
kept marks number other is = grind (arith, is_within, added, get_or-set_other)

pub after_adding : (marks : List Bool) (number other : ℕ) → is_in (set marks number true) other ≡ true → (other ≡ number) ⊎ (is_in marks other ≡ true)
after_adding marks number other is = grind (arith, get_or-set_other)

-- one number less is missing
pub one_less : (marks : List Bool) (number : ℕ) → number < length marks → is_in marks number ≡ false → count_by not (set marks number true) + 1 ≡ count_by not marks
one_less marks number small missing = grind (arith, sum_by-set)
