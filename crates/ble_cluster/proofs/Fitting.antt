-- Whether a BLE fits with members, from their nets.
use Rattle.ble_cluster.proofs.Prelude.{◌≡◌, ℕ, suc, zero, ◌<◌, ◌≤◌, Bool, true, false, List, [], ◌∷◌, ◌++◌, Some, None, All, length, refl, arith, length-append, LogicElement, find, length-map, All-nil, length-range_with_len, get_or-range_with_len, Arch, element_at, cluster_of, first_most, fits_in_cluster, members_after, input_count_at, may_join, unfit_among}

-- a full cluster takes no more
pub may_join_full : (arch : Arch) (elements : List LogicElement) (members : List ℕ) (number : ℕ) → arch.cluster_size ≤ length members → false ≡ may_join arch elements members number
may_join_full arch elements members number full = grind (arith, length-map, length-append)

-- if no BLE is unfit, each fits alone
none_found : (test : ℕ → Bool) (numbers : List ℕ) → find test numbers ≡ None → All (λ number. test number ≡ false) numbers
none_found test [] none = All-nil _
none_found test (number ∷ numbers) none = grind (arith, none_found test numbers)

pub fits_alone : (arch : Arch) (elements : List LogicElement) (number : ℕ) → unfit_among arch elements ≡ None → number < length elements → fits_in_cluster arch (element_at elements number ∷ []) ≡ true
fits_alone arch elements number none within = grind (arith, none_found, length-range_with_len 0 (length elements), get_or-range_with_len 0 (length elements) number 0 within)

-- if there is no seed, no BLE is free
pub none_free : (score : ℕ → ℕ) (numbers : List ℕ) → None ≡ first_most score numbers → numbers ≡ []
none_free score numbers h = grind arith

-- if no BLE is free, no cluster is made
nothing_grows : (arch : Arch) (elements : List LogicElement) (additions : ℕ) → members_after arch elements [] [] additions ≡ []
nothing_grows arch elements zero = refl
nothing_grows arch elements (suc additions) = rw (nothing_grows arch elements additions) refl

pub no_cluster : (arch : Arch) (elements : List LogicElement) → cluster_of arch elements [] ≡ []
unfolding cluster_of
no_cluster arch elements = nothing_grows arch elements arch.cluster_size

-- the cluster that grows from the seed
pub cluster_is : (arch : Arch) (elements : List LogicElement) (free members cleared : List ℕ) (seed : ℕ) → Some seed ≡ first_most (input_count_at elements) free → cleared ≡ [] → members ≡ cleared ++ seed ∷ [] → members_after arch elements free members arch.cluster_size ≡ cluster_of arch elements free
unfolding cluster_of
cluster_is arch elements free members cleared seed first nothing is = grind arith
