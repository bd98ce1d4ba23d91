-- Paths along edges, and their costs.
use Rattle.pathfinder.proofs.Prelude.{◌≡◌, ℕ, zero, suc, ◌+◌, ◌<◌, ◌≤◌, List, [], ◌∷◌, length, get_or, take, arith, ◌∙◌, ap, subst, Contains, take_more, take_all, sum_by-append, Graph, Leads, IsPath, cost_of, AreJoined}

-- edges from each node to the next one lead to the last
module _ (g : Graph) (goal : ℕ) where
  leads : (start : ℕ) (rest : List ℕ) → ((k : ℕ) → suc k < length (start ∷ rest) → Contains (g.ends (get_or (start ∷ rest) k 0)) (get_or (start ∷ rest) (suc k) 0)) → get_or (start ∷ rest) (length rest) 0 ≡ goal → Leads g goal start rest
  leads start [] h e = e
  leads start (next ∷ rest) h e = (h 0 (omega arith), leads next rest (λ k l. h (suc k) (omega arith)) e)

  pub path_from : (starts nodes : List ℕ) → 0 < length nodes → Contains starts (get_or nodes 0 0) → AreJoined g.ends nodes → (last : ℕ) → suc last ≡ length nodes → get_or nodes last 0 ≡ goal → IsPath g starts goal nodes
  path_from starts [] s c h last l e = absurd (omega arith)
  path_from starts (start ∷ rest) s c h last l e = let at : last ≡ length rest = omega (arith, l) in (c, leads start rest h (subst (λ k. get_or (start ∷ rest) k 0 ≡ goal) at e))

-- the cost of a path, node by node
pub cost_first : (g : Graph) (nodes : List ℕ) → cost_of g (take 1 nodes) ≡ 0
cost_first g nodes = grind arith

cost_later : (g : Graph) (start : ℕ) (rest : List ℕ) (k : ℕ) → k < length rest → cost_of g (take (suc (suc k)) (start ∷ rest)) ≡ cost_of g (take (suc k) (start ∷ rest)) + g.cost (get_or (start ∷ rest) (suc k) 0)
cost_later g start rest k l = grind (arith, sum_by-append, take_more rest k 0 l, sum_by-append g.cost (take k rest) (get_or rest k 0 ∷ []))

pub cost_more : (g : Graph) (nodes : List ℕ) (k : ℕ) → 1 ≤ k → k < length nodes → cost_of g (take (k + 1) nodes) ≡ cost_of g (take k nodes) + g.cost (get_or nodes k 0)
cost_more g [] k s l = absurd (omega arith)
cost_more g (start ∷ rest) zero s l = absurd (omega arith)
cost_more g (start ∷ rest) (suc k) s l =
    let e : suc k + 1 ≡ suc (suc k) = omega arith in
    ap (λ j. cost_of g (take j (start ∷ rest))) e ∙ cost_later g start rest k (omega arith)

pub cost_whole : (g : Graph) (nodes : List ℕ) (k : ℕ) → length nodes ≤ k → cost_of g (take k nodes) ≡ cost_of g nodes
cost_whole g nodes k l = ap (cost_of g) (take_all k nodes l)

pub cost_step : (a b p q : ℕ) → a ≡ b → p ≡ q → a + p ≡ b + q
cost_step a b p q e f = omega (arith, e, f)
