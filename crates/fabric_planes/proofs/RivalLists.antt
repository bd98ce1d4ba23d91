-- Bounds of rivals, as they are lowered.
use Rattle.fabric_planes.proofs.Prelude.{◌≡◌, ℕ, ◌+◌, ◌<◌, ◌≤◌, List, ◌++◌, length, take, refl, sym, ◌∙◌, subst, arith, take-append_seam, slice_index, slice_set, get_or-set_same, get_or-set_other, length-set, AreLowered, AreLimited}

pub lowered_itself : (xs : List ℕ) → AreLowered xs xs
lowered_itself xs = record { long = refl; falls = λ track. omega arith }

pub lowered_then : (xs ys zs : List ℕ) → AreLowered xs ys → AreLowered ys zs → AreLowered xs zs
lowered_then xs ys zs a b = record { long = b.long ∙ a.long; falls = λ track. omega (arith, a.falls track, b.falls track) }

pub limited_then : (tracks most : ℕ) (xs ys : List ℕ) → AreLimited tracks most xs → AreLowered xs ys → AreLimited tracks most ys
limited_then tracks most xs ys a b = record { long = b.long ∙ a.long; low = λ track. omega (arith, a.low track, b.falls track) }

-- one number is no greater than before
pub lowered_set : (old now : List ℕ) (k v : ℕ) → AreLowered old now → k < length now → v ≤ slice_index now k → AreLowered old (slice_set now k v)
lowered_set old now k v a within less = grind (arith, length-set, get_or-set_same, get_or-set_other)

-- what holds of each of the first numbers holds of one more
pub each_set : (P : ℕ → ℕ → Type 0) → (now : List ℕ) (k v : ℕ) → k < length now → ((i : ℕ) → i < k → P i (slice_index now i)) → P k v → (i : ℕ) → i < k + 1 → P i (slice_index (slice_set now k v) i)
each_set P now k v within low here i b = grind (arith, get_or-set_same, get_or-set_other)

-- what holds of the bounds for the first indices, and of lesser bounds too, holds for one more
pub each_more : (P : ℕ → List ℕ → Type 0) → ((i : ℕ) (xs ys : List ℕ) → P i xs → AreLowered xs ys → P i ys) → (now new : List ℕ) (k : ℕ) → ((i : ℕ) → i < k → P i now) → AreLowered now new → P k new → (i : ℕ) → i < k + 1 → P i new
each_more P still now new k low falls here i b = grind arith

-- a vector has what was written to its slice
pub written : (xs ys : List ℕ) (n : ℕ) → n ≡ length xs → take n (xs ++ ys) ≡ xs
written xs ys n e = subst (λ (k : ℕ). take k (xs ++ ys) ≡ xs) (sym e) (take-append_seam xs ys)
