-- The number of blocks of each kind.
use Rattle.std.proofs.Common.{◌≡◌, ℕ, ◌+◌, Bool, true, false, List, [], ◌∷◌, ◌++◌, map, length, count_by, cond, refl, ap, arith}
use Rattle.std.proofs.lemmas.List.Sums.{sum_by-append, sum_by-cons}
use Rattle.std.proofs.lemmas.List.FromFn.{length-range_with_len}
use Rattle.cluster.specs.Clusters.{PackedCircuit}
use Rattle.grid.specs.declared.place.Kind.TheVariants.{Logic, Pad}
use Rattle.grid.specs.declared.Strip.{Strip}
use Rattle.grid.specs.Places.{places_of}
use Rattle.block_places.specs.Fits.{block_count, fit_of_counts, fit_of}

-- the count of two lists is the sum of their counts
count_append : {X : Type 0} (p : X → Bool) (xs ys : List X) → count_by p (xs ++ ys) ≡ count_by p xs + count_by p ys
count_append p xs ys = sum_by-append (λ x. cond (p x) 1 0) xs ys

-- every element is counted
count_all : {X Y : Type 0} (p : Y → Bool) (f : X → Y) (xs : List X) → ((x : X) → p (f x) ≡ true) → count_by p (map f xs) ≡ length xs
count_all p f [] all = refl
count_all p f (x ∷ xs) all =
    let one : cond {A = ℕ} (p (f x)) 1 0 ≡ 1 = ap (λ b. cond {A = ℕ} b 1 0) (all x) in
    let rest = count_all p f xs all in
    omega (arith, one, rest, sum_by-cons (λ y. cond (p y) 1 0) (f x) (map f xs))

-- no element is counted
count_none : {X Y : Type 0} (p : Y → Bool) (f : X → Y) (xs : List X) → ((x : X) → p (f x) ≡ false) → count_by p (map f xs) ≡ 0
count_none p f [] none = refl
count_none p f (x ∷ xs) none = grind (arith, count_none p f xs none)

-- clusters need logic places
pub logic_count : (packed : PackedCircuit) → block_count packed Logic ≡ length packed.clusters
logic_count packed = grind (arith, count_none, count_all, count_append, length-range_with_len)

-- the other blocks need pads
pub pad_count : (packed : PackedCircuit) → block_count packed Pad ≡ length packed.circuit.inputs + length packed.circuit.outputs
pad_count packed = grind (arith, count_all, count_none, count_append)

-- the comparison, with the numbers that the code computed
pub fit_found : (strip : Strip) (packed : PackedCircuit) (logic_places blocks pad_places pads : ℕ)
    → logic_places ≡ length (places_of strip Logic) → blocks ≡ length packed.clusters → pad_places ≡ length (places_of strip Pad) → pads ≡ block_count packed Pad
    → fit_of_counts logic_places blocks pad_places pads ≡ fit_of strip packed
unfolding fit_of
fit_found strip packed logic_places blocks pad_places pads a b c d = grind (arith, logic_count)
