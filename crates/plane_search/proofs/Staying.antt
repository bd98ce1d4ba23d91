-- A start that is the goal, and paths that cost too much to be the least.
use Rattle.plane_search.proofs.Prelude.{◌≡◌, ◌≢◌, ℕ, refl, ◌+◌, ◌*◌, ◌^◌, ◌<◌, ◌≤◌, Option, Some, None, List, [], ◌∷◌, arith, ◌∙◌, ap, sym, subst, Contains, nat_cmp, slice_cmp, Less, sum_by-cons, All-contains, Graph, IsLawful, AreNodes, IsPath, cost_of, path_cmp, IsLeastPath, HasNoPath, Path, Family, AreNoCheaper, IsMet, IsLeastOn, HasNoneWithin}
use Rattle.plane_search.proofs.Order.{not_less_then, not_less_dearer}
use Rattle.plane_search.proofs.Bests.{not_before}
use Rattle.plane_search.proofs.Walking.{end_within}

module _ (g : Graph) (goal : ℕ) (starts : List ℕ) (law : IsLawful g) (b : AreNodes g starts) where
  further : (start x : ℕ) → Contains starts start → Contains (g.ends start) x → 1 ≤ g.cost x
  further start x c to = law.cost_from x (end_within g law start x (All-contains (λ (v : ℕ). v < g.count) starts start b c) to)

  -- From another start a path has a further node.
  pub starts_apart : (Contains starts goal → ⊥) → AreNoCheaper g goal 1 starts
  starts_apart apart start c [] leads = absurd (apart (subst (λ (x : ℕ). Contains starts x) leads c))
  starts_apart apart start c (x ∷ rest) leads = omega (arith, sum_by-cons g.cost x rest, further start x c leads.0)

  -- The least path has no further node.
  pub least_at_goal : Contains starts goal → IsLeastPath g starts goal (goal ∷ [])
  least_at_goal c = record { found = (c, refl); least = least }
    where
      least : (other : List ℕ) → IsPath g starts goal other → path_cmp g other (goal ∷ []) ≢ Less
      least [] p = absurd p
      least (x ∷ []) p = subst (λ (v : ℕ). path_cmp g (v ∷ []) (goal ∷ []) ≢ Less) (sym p.1) (not_less_then (cost_of g (goal ∷ [])) (cost_of g (goal ∷ [])) (slice_cmp nat_cmp (goal ∷ []) (goal ∷ [])) (omega arith) (λ _. not_before (goal ∷ [])))
      least (x ∷ y ∷ rest) p = not_less_dearer g (x ∷ y ∷ rest) (goal ∷ []) (omega (arith, sum_by-cons g.cost y rest, further x y p.0 p.1.0))

  -- If each path costs more than the least can, there is none.
  pub none_so_dear : (answer : Option (List ℕ)) → ((path : List ℕ) → answer ≡ Some path → IsLeastPath g starts goal path) → (answer ≡ None → HasNoPath g starts goal) → ((path : List ℕ) → IsLeastPath g starts goal path → cost_of g path ≤ g.count * 2 ^ 36)
      → (most : ℕ) → g.count ≤ 2 ^ 22 → 2 ^ 58 ≤ most → ((path : List ℕ) → IsPath g starts goal path → most < cost_of g path) → HasNoPath g starts goal
  none_so_dear None some none cheap most few l dear = none refl
  none_so_dear (Some path) some none cheap most few l dear = λ other p.
      let least : IsLeastPath g starts goal path = some path refl in
      absurd (omega (arith, few, l, cheap path least, dear path least.found))

-- What a path was found to cost, it costs.
pub is_met : (f : Family) (track least : ℕ) (starts : List ℕ) → IsMet (f.plane track) starts f.exit least → HasNoneWithin f track starts least → ⊥
is_met f track least starts met none = omega (arith, met (least + 1) (λ start c rest leads. omega (arith, none (start ∷ rest) (c, leads))))

-- The only place of the path is the goal.
pub stays_on : (f : Family) (track exit : ℕ) (starts : List ℕ) (found : Path) → IsLawful (f.plane track) → AreNodes (f.plane track) starts → exit ≡ f.exit → Contains starts exit → found.nodes.items ≡ exit ∷ [] → found.cost ≡ 0 → IsLeastOn f track starts found
stays_on f track exit starts found law b at c nodes none = record {
  least = subst (λ (path : List ℕ). IsLeastPath (f.plane track) starts f.exit path) (sym (nodes ∙ ap (λ (v : ℕ). v ∷ []) at)) (least_at_goal (f.plane track) f.exit starts law b (subst (λ (v : ℕ). Contains starts v) at c));
  cost = subst (λ (path : List ℕ). found.cost ≡ cost_of (f.plane track) path) (sym nodes) none;
}
