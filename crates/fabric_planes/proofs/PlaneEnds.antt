-- The ends of a node's edges in a track's plane.
use Rattle.fabric_planes.proofs.Prelude.{◌≡◌, ℕ, ◌+◌, ◌<◌, List, [], length, get_or, map, refl, sym, subst, arith, true, Bool, ◌&&◌, Contains, filter, IsStrictlyIncreasing, and_from, length-map, get_or-map, Contains-get_or, IsStrictlyIncreasing-filter, Node, is_node, is_edge, joins, Basis, IsBasis, graph_of, edge_joins, filter_has, contains_has, has_contains, shown_ends, Labels, plane_of, Terminals, place_of, shows, labels_of, IsNetSearch}
use Rattle.fabric_planes.proofs.Labeled.{place_has, has_place, at_place, there_of}
use Rattle.fabric_planes.proofs.Strips.{lawful, are_labels, place_order}

-- the places of nodes that are shown rise
places_rise : (shown : ℕ → Bool) (place : ℕ → ℕ) (count : ℕ) → ((i j : ℕ) → i < j → j < count → shown i ≡ true → shown j ≡ true → place i < place j)
    → (nodes : List ℕ) → IsStrictlyIncreasing nodes → ((i : ℕ) → Contains nodes i → i < count) → IsStrictlyIncreasing (map place (filter shown nodes))
places_rise shown place count order nodes rises within k b =
    let kept = filter shown nodes in
    let long : k + 1 < length kept = omega (arith, b, length-map kept place) in
    let at : (j : ℕ) → j < length kept → get_or (map place kept) j 0 ≡ place (get_or kept j 0) = λ j c. get_or-map place kept j 0 0 c in
    let is : (j : ℕ) → j < length kept → (get_or kept j 0 < count) × (shown (get_or kept j 0) ≡ true) = λ j c.
    let both = filter_has shown (get_or kept j 0) nodes (contains_has (get_or kept j 0) kept (Contains-get_or kept j 0 c)) in
    (within (get_or kept j 0) (has_contains (get_or kept j 0) nodes both.0), both.1) in
    let less : get_or kept k 0 < get_or kept (k + 1) 0 = IsStrictlyIncreasing-filter shown nodes rises k long in
    let first = is k (omega (arith, long)) in
    let second = is (k + 1) long in
    rw (at k (omega (arith, long)), at (k + 1) long) (order (get_or kept k 0) (get_or kept (k + 1) 0) less second.0 first.1 second.1)

module _ {basis : Basis} (is : IsBasis basis) (t : Terminals) where
  abbrev node : ℕ → Node
  node = (graph_of basis).node

  -- what is shown of any net
  abbrev l : Labels
  l = labels_of basis (λ k. 1) [] 0 t

  -- what is shown at the end of an edge is listed
  pub end_back : (i : ℕ) → i < (graph_of basis).count → (track : ℕ) (b : Node) → is_node basis.arch basis.strip b ≡ true → joins basis.arch basis.strip (node i).kind b.kind (node i) b ≡ true → shows basis.strip t track b.kind b ≡ true
      → Contains (shown_ends basis t track i) (place_of basis b)
  unfolding shown_ends labels_of
  end_back i within track b there h s =
      let found = (lawful is).all b there in
      let edge : is_edge basis.arch basis.strip (node i) (node found.0) ≡ true = rw found.2
      (and_from (is_node basis.arch basis.strip (node i)) (is_node basis.arch basis.strip b && joins basis.arch basis.strip (node i).kind b.kind (node i) b) ((lawful is).nodes i within)
      (and_from (is_node basis.arch basis.strip b) (joins basis.arch basis.strip (node i).kind b.kind (node i) b) there h)) in
      let c = ((lawful is).pairs i found.0 within).1 (found.1, edge) in
      subst (λ (v : Node). Contains (shown_ends basis t track i) (place_of basis v)) found.2
      (has_place l track ((graph_of basis).ends i) found.0 c (subst (λ (v : Node). shows basis.strip t track v.kind v ≡ true) (sym found.2) s))

  -- an end that is shown
  pub record IsShownEnd (i track place : ℕ) : Type 0 where
    pub end : ℕ
    pub there : is_node basis.arch basis.strip (node end) ≡ true
    pub joined : joins basis.arch basis.strip (node i).kind (node end).kind (node i) (node end) ≡ true
    pub shown : shows basis.strip t track (node end).kind (node end) ≡ true
    pub is_at : place_of basis (node end) ≡ place

  pub end_shown : (i : ℕ) → i < (graph_of basis).count → (track place : ℕ) → Contains (shown_ends basis t track i) place → IsShownEnd i track place
  unfolding shown_ends labels_of
  end_shown i within track place c =
      let p = place_has l track ((graph_of basis).ends i) place c in
      let q = ((lawful is).pairs i p.node within).0 p.contained in
      record { end = p.node; there = (lawful is).nodes p.node q.0; joined = edge_joins basis.arch basis.strip (node i) (node p.node) q.1; shown = p.shown; is_at = p.is }

  pub shown_rise : (i : ℕ) → i < (graph_of basis).count → (track : ℕ) → IsStrictlyIncreasing (shown_ends basis t track i)
  unfolding shown_ends
  shown_rise i within track =
      places_rise (λ j. shows basis.strip t track (node j).kind (node j)) (λ j. place_of basis (node j)) (graph_of basis).count
      (λ j k l b hj hk. place_order is t track j k l (omega (arith, l, b)) b hj hk ((lawful is).ordered j k l b))
      ((graph_of basis).ends i) ((lawful is).increasing i within) (λ j c. (((lawful is).pairs i j within).0 c).0)

  -- the plane of a net has these ends
  pub plane_shows : (cost : ℕ → ℕ) (starts : List ℕ) (goal : ℕ) (search : IsNetSearch basis cost starts goal t) (i track : ℕ) → i < (graph_of basis).count → shows basis.strip t track (node i).kind (node i) ≡ true
      → (plane_of (labels_of basis cost starts goal t) track).ends (place_of basis (node i)) ≡ shown_ends basis t track i
  unfolding labels_of shown_ends
  plane_shows cost starts goal search i track b s =
      let l = labels_of basis cost starts goal t in
      let are = are_labels is cost starts goal t search in
      rw (there_of l are track i b s, at_place l are track i b s) refl
