-- Bounds that are consistent along edges.
use Rattle.least_path.proofs.Prelude.{◌≡◌, ℕ, ◌+◌, ◌<◌, Option, Some, None, List, [], ◌∷◌, arith, ◌∙◌, ap, sum_by, sum_by-cons, Graph, IsLawful, Leads, IsLowerBound, FallsByAtMost, IsConsistent}
use Rattle.least_path.proofs.Edges.{known_end}

no_steps : (bound : Option ℕ) → bound ≡ Some 0 → FallsByAtMost 0 bound (Some 0)
no_steps bound e = grind arith

one_step : (cost sum : ℕ) (bound next : Option ℕ) → FallsByAtMost cost bound next → FallsByAtMost sum next (Some 0) → FallsByAtMost (cost + sum) bound (Some 0)
one_step cost sum bound next f q = grind arith

along : (g : Graph) (goal : ℕ) (bound_at : ℕ → Option ℕ) → IsLawful g → IsConsistent g goal bound_at → (rest : List ℕ) (node : ℕ) → node < g.count → Leads g goal node rest → FallsByAtMost (sum_by g.cost rest) (bound_at node) (Some 0)
along g goal bound_at law c [] node b l = no_steps (bound_at node) (ap bound_at l ∙ c.at_goal)
along g goal bound_at law c (x ∷ r) node b l = grind (arith, sum_by-cons, one_step (g.cost x) (sum_by g.cost r) (bound_at node) (bound_at x) (c.step node x b l.0) (along g goal bound_at law c r x (known_end law node x b l.0) l.1), along g goal bound_at law c r x (known_end law node x b l.0) l.1)

-- Bounds that are consistent along edges are lower bounds.
pub consistent_below : (g : Graph) (goal : ℕ) (bound_at : ℕ → Option ℕ) (node : ℕ) → IsLawful g → IsConsistent g goal bound_at → node < g.count → IsLowerBound g goal node (bound_at node)
consistent_below g goal bound_at node law c b = go (bound_at node) (λ rest l. along g goal bound_at law c rest node b l)
  where
    go : (bound : Option ℕ) → ((rest : List ℕ) → Leads g goal node rest → FallsByAtMost (sum_by g.cost rest) bound (Some 0)) → IsLowerBound g goal node bound
    go None h = h
    go (Some n) h = λ rest l. omega (arith, h rest l)
