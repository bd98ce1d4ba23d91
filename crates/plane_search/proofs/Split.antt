-- The whole graph's paths are those of its planes.
use Rattle.plane_search.proofs.Prelude.{◌≡◌, ◌≢◌, ℕ, refl, ◌<◌, Option, Some, None, List, [], ◌∷◌, subst, All, Less, All-nil, All-cons, All-contains, Leads, IsPath, path_cmp, IsLeastPath, Family, IsOn, IsFamily, IsInPlane, HoldsNothingLess, HoldsNone}
use Rattle.plane_search.proofs.Embedding.{path_plane}

only_this : (f : Family) (node track : ℕ) → f.track_of node ≡ Some track → IsOn f track node
only_this f node track e = λ other s. cc

no_wire : (f : Family) (node track : ℕ) → f.track_of node ≡ None → IsOn f track node
no_wire f node track e = λ other s. cc

-- a track on which the nodes are
IsOnOne : Family → List ℕ → Type 0
IsOnOne f nodes = (track : ℕ) × (track < f.tracks) × All (IsOn f track) nodes

module _ {f : Family} (family : IsFamily f) where
  on_last : (node : ℕ) → node < f.whole.count → (o : Option ℕ) → f.track_of node ≡ o → IsOnOne f (node ∷ [])
  unfolding IsOnOne
  on_last node b (Some track) e = (track, family.wires node track b e, All-cons (IsOn f track) node [] (only_this f node track e) (All-nil (IsOn f track)))
  on_last node b None e = (0, family.some, All-cons (IsOn f 0) node [] (no_wire f node 0 e) (All-nil (IsOn f 0)))

  on_more : (node next : ℕ) (rest : List ℕ) → node < f.whole.count → Leads f.whole f.goal node (next ∷ rest) → IsOnOne f (next ∷ rest) → (o : Option ℕ) → f.track_of node ≡ o → IsOnOne f (node ∷ next ∷ rest)
  unfolding IsOnOne
  on_more node next rest b l r (Some track) e =
      (track, family.wires node track b e, All-cons (IsOn f track) node (next ∷ rest) (only_this f node track e) (family.stays node track (next ∷ rest) b e l))
  on_more node next rest b l r None e = (r.0, r.1, All-cons (IsOn f r.0) node (next ∷ rest) (no_wire f node r.0 e) r.2)

  on_one : (rest : List ℕ) (node : ℕ) → node < f.whole.count → Leads f.whole f.goal node rest → IsOnOne f (node ∷ rest)
  on_one [] node b l = on_last node b (f.track_of node) refl
  on_one (x ∷ xs) node b l =
      let there : x < f.whole.count = All-contains (λ end. end < f.whole.count) (f.whole.ends node) x (family.lawful.ends_below node b) l.0 in
      on_more node x xs b l (on_one xs x there l.1) (f.track_of node) refl

  pub split : (path : List ℕ) → IsPath f.whole f.starts f.goal path → IsInPlane f path
  unfolding IsOnOne
  split [] p = absurd p
  split (x ∷ xs) p =
      let t = on_one xs x (All-contains (λ node. node < f.whole.count) f.starts x family.starts p.0) p.1 in
      let q = path_plane (family.planes t.0 t.1) (x ∷ xs) p t.2 in
      record { track = t.0; within = t.1; places = q.0; is_path = q.1; is = q.2 }

  pub least_of_all : (best : List ℕ) → IsPath f.whole f.starts f.goal best → ((track : ℕ) → track < f.tracks → HoldsNothingLess f track best) → IsLeastPath f.whole f.starts f.goal best
  least_of_all best p nothing = record {
    found = p;
    least = λ other o.
        let s = split other o in
        subst (λ (q : List ℕ). path_cmp f.whole q best ≢ Less) s.is (nothing s.track s.within s.places s.is_path);
  }

  within_rest : (rest : List ℕ) (node : ℕ) → node < f.whole.count → Leads f.whole f.goal node rest → All (λ (v : ℕ). v < f.whole.count) (node ∷ rest)
  within_rest [] node b l = All-cons (λ (v : ℕ). v < f.whole.count) node [] b (All-nil (λ (v : ℕ). v < f.whole.count))
  within_rest (x ∷ xs) node b l =
      let there : x < f.whole.count = All-contains (λ end. end < f.whole.count) (f.whole.ends node) x (family.lawful.ends_below node b) l.0 in
      All-cons (λ (v : ℕ). v < f.whole.count) node (x ∷ xs) b (within_rest xs x there l.1)

  pub path_within : (path : List ℕ) → IsPath f.whole f.starts f.goal path → All (λ (v : ℕ). v < f.whole.count) path
  path_within [] p = absurd p
  path_within (x ∷ xs) p = within_rest xs x (All-contains (λ node. node < f.whole.count) f.starts x family.starts p.0) p.1

  pub none_of_all : ((track : ℕ) → track < f.tracks → HoldsNone f track) → (path : List ℕ) → IsPath f.whole f.starts f.goal path → ⊥
  none_of_all none path p = let s = split path p in none s.track s.within s.places s.is_path
