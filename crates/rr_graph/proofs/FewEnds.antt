-- The number of ends that a node can have.
use Rattle.rr_graph.proofs.Prelude.{ℕ, zero, suc, ◌<◌, ◌≤◌, List, length, arith, All, Contains, slice_index, IsStrictlyIncreasing, Basis, RoutingGraph, IsRoutingGraph, All-contains_itself}

-- each number is at least its index
at_least_place : (xs : List ℕ) → IsStrictlyIncreasing xs → (k : ℕ) → k < length xs → k ≤ slice_index xs k
at_least_place xs rises zero within = omega arith
at_least_place xs rises (suc k) within = grind (arith, at_least_place xs rises k (omega arith))

-- an increasing list of numbers below a bound has at most as many numbers as the bound
rising_few : (xs : List ℕ) (bound : ℕ) → IsStrictlyIncreasing xs → All (λ x. x < bound) xs → length xs ≤ bound
rising_few xs bound rises below = grind (arith, at_least_place)

contained_few : (xs : List ℕ) (bound : ℕ) → IsStrictlyIncreasing xs → ((x : ℕ) → Contains xs x → x < bound) → length xs ≤ bound
contained_few xs bound rises below = rising_few xs bound rises (λ k d within. below _ (All-contains_itself xs k d within))

pub ends_below : (basis : Basis) (g : RoutingGraph) (i end : ℕ) → IsRoutingGraph basis g → i < g.count → Contains (g.ends i) end → end < g.count
ends_below basis g i end lawful within found = ((lawful.pairs i end within).0 found).0

pub ends_few : (basis : Basis) (g : RoutingGraph) (i : ℕ) → IsRoutingGraph basis g → i < g.count → length (g.ends i) ≤ g.count
ends_few basis g i lawful within = contained_few (g.ends i) g.count (lawful.increasing i within) (λ end found. ends_below basis g i end lawful within found)
