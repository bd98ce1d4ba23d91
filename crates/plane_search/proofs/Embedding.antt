-- Paths of a plane and paths of the whole graph.
use Rattle.plane_search.proofs.Prelude.{◌≡◌, ℕ, refl, ◌<◌, List, [], ◌∷◌, map, arith, ◌∙◌, inl, inr, sym, ap, subst, sum_by, All, slice_cmp, nat_cmp, ordering_then, cases_eq, cases_lt, sum_by-cons, All-nil, All-cons, All-head, All-tail, Leads, IsPath, cost_of, path_cmp, Family, IsPlace, IsOn, IsPlane}
use Rattle.plane_search.proofs.Order.{cmp_less, cmp_equal, cmp_greater}

module _ {f : Family} {track : ℕ} (plane : IsPlane f track) where
  -- ---- from the plane to the whole graph

  pub ways_there : (rest : List ℕ) (place : ℕ) → IsPlace f track place → Leads (f.plane track) f.exit place rest → All (IsPlace f track) (place ∷ rest)
  ways_there [] place there l = All-cons (IsPlace f track) place [] there (All-nil (IsPlace f track))
  ways_there (x ∷ xs) place there l = All-cons (IsPlace f track) place (x ∷ xs) there (ways_there xs x (plane.ends_there place x there l.0) l.1)

  pub leads_whole : (rest : List ℕ) (place : ℕ) → IsPlace f track place → Leads (f.plane track) f.exit place rest → Leads f.whole f.goal (f.number track place) (map (f.number track) rest)
  leads_whole [] place there l = ap (f.number track) l ∙ plane.exit_is
  leads_whole (x ∷ xs) place there l = (plane.sound place x there l.0, leads_whole xs x (plane.ends_there place x there l.0) l.1)

  pub sum_whole : (rest : List ℕ) (place : ℕ) → IsPlace f track place → Leads (f.plane track) f.exit place rest → sum_by f.whole.cost (map (f.number track) rest) ≡ sum_by (f.plane track).cost rest
  sum_whole [] place there l = refl
  sum_whole (x ∷ xs) place there l =
      let here : IsPlace f track x = plane.ends_there place x there l.0 in
      omega (arith, sum_by-cons f.whole.cost (f.number track x) (map (f.number track) xs), sum_by-cons (f.plane track).cost x xs, plane.cost x here, sum_whole xs x here l.1)

  pub path_there : (path : List ℕ) → IsPath (f.plane track) (f.entries track) f.exit path → All (IsPlace f track) path
  path_there [] p = absurd p
  path_there (x ∷ xs) p = ways_there xs x (plane.entries_there x p.0) p.1

  pub path_whole : (path : List ℕ) → IsPath (f.plane track) (f.entries track) f.exit path → IsPath f.whole f.starts f.goal (map (f.number track) path)
  path_whole [] p = p
  path_whole (x ∷ xs) p = (plane.entries_sound x p.0, leads_whole xs x (plane.entries_there x p.0) p.1)

  pub cost_whole : (path : List ℕ) → IsPath (f.plane track) (f.entries track) f.exit path → cost_of f.whole (map (f.number track) path) ≡ cost_of (f.plane track) path
  cost_whole [] p = absurd p
  cost_whole (x ∷ xs) p = sum_whole xs x (plane.entries_there x p.0) p.1

  -- ---- the order

  pub same_place : (a b : ℕ) → IsPlace f track a → IsPlace f track b → f.number track a ≡ f.number track b → a ≡ b
  same_place a b pa pb e = elim (cases_eq a b) [
    | inl same ↦ same
    | inr other ↦ elim (cases_lt a b) [
      | inl l ↦ absurd (omega (arith, plane.order a b pa pb l, e))
      | inr l ↦ (let m : b < a = omega (arith, l, other) in absurd (omega (arith, plane.order b a pb pa m, e)))
    ]
  ]

  number_cmp : (a b : ℕ) → IsPlace f track a → IsPlace f track b → nat_cmp (f.number track a) (f.number track b) ≡ nat_cmp a b
  number_cmp a b pa pb = elim (cases_eq a b) [
    | inl same ↦ cmp_equal (f.number track a) (f.number track b) (ap (f.number track) same) ∙ sym (cmp_equal a b same)
    | inr other ↦ elim (cases_lt a b) [
      | inl l ↦ cmp_less (f.number track a) (f.number track b) (plane.order a b pa pb l) ∙ sym (cmp_less a b l)
      | inr l ↦ (let m : b < a = omega (arith, l, other) in cmp_greater (f.number track a) (f.number track b) (plane.order b a pb pa m) ∙ sym (cmp_greater a b m))
    ]
  ]

  nodes_cmp : (p q : List ℕ) → All (IsPlace f track) p → All (IsPlace f track) q → slice_cmp nat_cmp (map (f.number track) p) (map (f.number track) q) ≡ slice_cmp nat_cmp p q
  nodes_cmp [] [] tp tq = refl
  nodes_cmp [] (y ∷ ys) tp tq = refl
  nodes_cmp (x ∷ xs) [] tp tq = refl
  nodes_cmp (x ∷ xs) (y ∷ ys) tp tq =
      let first = number_cmp x y (All-head (IsPlace f track) x xs tp) (All-head (IsPlace f track) y ys tq) in
      let others = nodes_cmp xs ys (All-tail (IsPlace f track) x xs tp) (All-tail (IsPlace f track) y ys tq) in
      (λ i. ordering_then (first i) (others i))

  pub cmp_whole : (p q : List ℕ) → IsPath (f.plane track) (f.entries track) f.exit p → IsPath (f.plane track) (f.entries track) f.exit q
      → path_cmp f.whole (map (f.number track) p) (map (f.number track) q) ≡ path_cmp (f.plane track) p q
  cmp_whole p q hp hq =
      let costs_p = cost_whole p hp in
      let costs_q = cost_whole q hq in
      let nodes = nodes_cmp p q (path_there p hp) (path_there q hq) in
      (λ i. ordering_then (nat_cmp (costs_p i) (costs_q i)) (nodes i))

  -- ---- from the whole graph to the plane

  leads_plane : (rest : List ℕ) (place : ℕ) → IsPlace f track place → Leads f.whole f.goal (f.number track place) rest → All (IsOn f track) rest
      → (ps : List ℕ) × Leads (f.plane track) f.exit place ps × (map (f.number track) ps ≡ rest)
  leads_plane [] place there l on = ([], same_place place f.exit there plane.exit_there (l ∙ sym plane.exit_is), refl)
  leads_plane (x ∷ xs) place there l on =
      let q = plane.complete place x xs there l.0 (All-head (IsOn f track) x xs on) l.1 in
      let way : Leads f.whole f.goal (f.number track q.0) xs = subst (λ (v : ℕ). Leads f.whole f.goal v xs) (sym q.2) l.1 in
      let r = leads_plane xs q.0 (plane.ends_there place q.0 there q.1) way (All-tail (IsOn f track) x xs on) in
      (q.0 ∷ r.0, (q.1, r.1), (λ i. q.2 i ∷ r.2 i))

  pub path_plane : (path : List ℕ) → IsPath f.whole f.starts f.goal path → All (IsOn f track) path
      → (p : List ℕ) × IsPath (f.plane track) (f.entries track) f.exit p × (map (f.number track) p ≡ path)
  path_plane [] p on = absurd p
  path_plane (x ∷ xs) p on =
      let q = plane.entries_complete x xs p.0 (All-head (IsOn f track) x xs on) p.1 in
      let way : Leads f.whole f.goal (f.number track q.0) xs = subst (λ (v : ℕ). Leads f.whole f.goal v xs) (sym q.2) p.1 in
      let r = leads_plane xs q.0 (plane.entries_there q.0 q.1) way (All-tail (IsOn f track) x xs on) in
      (q.0 ∷ r.0, (q.1, r.1), (λ i. q.2 i ∷ r.2 i))
