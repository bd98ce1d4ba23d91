-- The order of paths.
use Rattle.plane_search.proofs.Prelude.{◌≡◌, ◌≢◌, ℕ, ◌<◌, ◌≤◌, List, arith, IsTotalOrder, slice_cmp, nat_cmp, ordering_then, Ordering, Less, Equal, Greater, on_total, then_total, nat_cmp_total, nat_list_cmp_total, Graph, cost_of, path_cmp}

pub cmp_less : (a b : ℕ) → a < b → nat_cmp a b ≡ Less
cmp_less a b l = grind arith

pub cmp_equal : (a b : ℕ) → a ≡ b → nat_cmp a b ≡ Equal
cmp_equal a b l = grind arith

pub cmp_greater : (a b : ℕ) → b < a → nat_cmp a b ≡ Greater
cmp_greater a b l = grind arith

-- numbers whose order decides first, and what decides between equal ones
pub not_less_then : (a b : ℕ) (o : Ordering) → b ≤ a → (a ≡ b → o ≢ Less) → ordering_then (nat_cmp a b) o ≢ Less
not_less_then a b o l h = grind arith

-- What is less than something is less than all that is not.
pub less_under : {K : Type 0} {R : K → K → Ordering} → IsTotalOrder R → (x y z : K) → R x y ≡ Less → R z y ≢ Less → R x z ≡ Less
less_under total x y z l h = grind arith

pub path_cmp_total : (g : Graph) → IsTotalOrder (path_cmp g)
path_cmp_total g = then_total (on_total (cost_of g) nat_cmp_total) nat_list_cmp_total

-- A path is not less than one that costs less.
pub not_less_dearer : (g : Graph) (p best : List ℕ) → cost_of g best < cost_of g p → path_cmp g p best ≢ Less
not_less_dearer g p best l = not_less_then (cost_of g p) (cost_of g best) (slice_cmp nat_cmp p best) (omega arith) (λ e. absurd (omega (arith, e)))
