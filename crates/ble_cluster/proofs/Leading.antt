-- A property of all numbers holds for the one that leads them, and for one that is found among
-- them.
use Rattle.ble_cluster.proofs.Prelude.{◌≡◌, ◌≢◌, ℕ, Bool, true, false, List, [], ◌∷◌, All, if◌then◌else◌, arith, nat_lt, eqb, ◌⊎◌, inl, inr, list_any, eqb_tells, All-tail, leader_of}

-- the leading number has a property that all numbers have
pub leading_lawful : (P : ℕ → Type 0) (score : ℕ → ℕ) (best : ℕ) (numbers : List ℕ) → P best → All P numbers → P (leader_of score best numbers)
leading_lawful P score best [] b h = b
leading_lawful P score best (number ∷ numbers) b h = leading_lawful P score (if nat_lt (score best) (score number) then number else best) numbers (by (nat_lt (score best) (score number))) (All-tail P number numbers h)
  where
    by : (test : Bool) → P (if test then number else best)
    by true = h 0 number (omega arith)
    by false = b

-- a number that is found has a property that all numbers have
pub found : (P : ℕ → Type 0) (numbers : List ℕ) → All P numbers → (number : ℕ) → list_any (eqb number) numbers ≡ true → P number
found P [] h number e = absurd cc
found P (other ∷ numbers) h number e = by (eqb_tells number other) (found P numbers (All-tail P other numbers h) number)
  where
    by : ((eqb number other ≡ true) × (number ≡ other)) ⊎ ((eqb number other ≡ false) × (number ≢ other)) → (list_any (eqb number) numbers ≡ true → P number) → P number
    by (inl same) next = rw same.1 (h 0 number (omega arith))
    by (inr differs) next = next (rw differs.0 at e)
