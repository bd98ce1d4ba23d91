-- A graph with labeled nodes consists of the planes of its tracks.
use Rattle.fabric_planes.proofs.Prelude.{◌≡◌, ℕ, refl, ◌^◌, ◌<◌, ◌≤◌, List, [], ◌∷◌, length, get_or, arith, ◌∙◌, inl, inr, sym, ap, subst, Bool, true, ◌&&◌, filter, Contains, range_with_len, and_parts, cases_Bool, eqb-true, lt-ltb, ltb-true, false≢true, length-map, All-contains, All-contains_itself, length-range_with_len, get_or-range_with_len, passes_at_first, position_or_len_is, IsLawful, AreNodes, IsFamily, IsPlane, IsPlace, Labels, AreLabels, node_at, is_there, plane_of, family_of}
use Rattle.std.specs.Prelude.{◌==◌}
use Rattle.fabric_planes.specs.Labels.{places_of}
use Rattle.fabric_planes.proofs.Members.{in_cases, in_first, in_further, in_none}

-- the place of a node that is shown is among the places
pub has_place : (l : Labels) (track : ℕ) (nodes : List ℕ) (node : ℕ) → Contains nodes node → l.is_shown track node ≡ true → Contains (places_of l track nodes) (l.place node)
has_place l track [] node c s = absurd (in_none node c)
has_place l track (x ∷ xs) node c s = elim (cases_Bool (l.is_shown track x)) [
  | inl is ↦ rw is (elim (in_cases x node xs c) [
    | inl e ↦ subst (Contains (l.place x ∷ places_of l track xs)) (ap l.place e) (in_first (l.place x) (places_of l track xs))
    | inr rest ↦ in_further (l.place x) (l.place node) (places_of l track xs) (has_place l track xs node rest s)
  ])
  | inr isn't ↦ rw isn't (elim (in_cases x node xs c) [
    | inl e ↦ absurd (false≢true (sym isn't ∙ (ap (l.is_shown track) e ∙ s)))
    | inr rest ↦ has_place l track xs node rest s
  ])
]

-- each of the places is that of a node that is shown
pub record IsPlaceOf (l : Labels) (track : ℕ) (nodes : List ℕ) (place : ℕ) : Type 0 where
  pub node : ℕ
  pub contained : Contains nodes node
  pub shown : l.is_shown track node ≡ true
  pub is : l.place node ≡ place

place_further : (l : Labels) (track x : ℕ) (xs : List ℕ) (place : ℕ) → IsPlaceOf l track xs place → IsPlaceOf l track (x ∷ xs) place
place_further l track x xs place p = record { node = p.node; contained = in_further x p.node xs p.contained; shown = p.shown; is = p.is }

pub place_has : (l : Labels) (track : ℕ) (nodes : List ℕ) (place : ℕ) → Contains (places_of l track nodes) place → IsPlaceOf l track nodes place
place_has l track [] place c = absurd (in_none place c)
place_has l track (x ∷ xs) place c = elim (cases_Bool (l.is_shown track x)) [
  | inl is ↦ elim (in_cases (l.place x) place (places_of l track xs) (rw is at c)) [
    | inl e ↦ record { node = x; contained = in_first x xs; shown = is; is = e }
    | inr rest ↦ place_further l track x xs place (place_has l track xs place rest)
  ]
  | inr isn't ↦ place_further l track x xs place (place_has l track xs place (rw isn't at c))
]

filter_few : (test : ℕ → Bool) (xs : List ℕ) → length (filter test xs) ≤ length xs
filter_few test [] = omega arith
filter_few test (x ∷ xs) = grind (arith, filter_few test xs)

-- ---- nodes at places

module _ (l : Labels) (are : AreLabels l) where
  range_at : (k : ℕ) → k < l.whole.count → get_or (range_with_len 0 l.whole.count) k 0 ≡ k
  range_at k b = get_or-range_with_len 0 l.whole.count k 0 b ∙ omega arith

  test : ℕ → ℕ → ℕ → Bool
  test track place node = l.is_shown track node && (l.place node == place)

  pub at_place : (track node : ℕ) → node < l.whole.count → l.is_shown track node ≡ true → node_at l track (l.place node) ≡ node
  unfolding test
  at_place track node b s = grind (arith, position_or_len_is, length-range_with_len, range_at, eqb-true, range_at node b)

  pub there_of : (track node : ℕ) → node < l.whole.count → l.is_shown track node ≡ true → is_there l track (l.place node) ≡ true
  there_of track node b s = rw (at_place track node b s) (lt-ltb node l.whole.count b)

  pub record IsShownAt (track place : ℕ) : Type 0 where
    pub within : node_at l track place < l.whole.count
    pub shown : l.is_shown track (node_at l track place) ≡ true
    pub is : l.place (node_at l track place) ≡ place

  pub shown_at : (track place : ℕ) → is_there l track place ≡ true → IsShownAt track place
  unfolding test
  shown_at track place there =
      let within : node_at l track place < l.whole.count = ltb-true (node_at l track place) l.whole.count there in
      let passes = passes_at_first (test track place) (range_with_len 0 l.whole.count) 0 (omega (arith, length-range_with_len 0 l.whole.count, within)) in
      let parts = and_parts (l.is_shown track (node_at l track place)) (l.place (node_at l track place) == place) (subst (λ k. test track place k ≡ true) (range_at (node_at l track place) within) passes) in
      record { within = within; shown = parts.0; is = eqb-true (l.place (node_at l track place)) place parts.1 }

  is_place : (track node : ℕ) → node < l.whole.count → l.is_shown track node ≡ true → IsPlace (family_of l) track (l.place node)
  unfolding family_of
  is_place track node b s = record { within = are.low track node b s; there = there_of track node b s }

  -- ---- planes

  end_below : (node end : ℕ) → node < l.whole.count → Contains (l.whole.ends node) end → end < l.whole.count
  end_below node end b c = All-contains (λ (v : ℕ). v < l.whole.count) (l.whole.ends node) end (are.lawful.ends_below node b) c

  ends_low : (track place : ℕ) → AreNodes (plane_of l track) ((plane_of l track).ends place)
  ends_low track place = elim (cases_Bool (is_there l track place)) [
    | inl there ↦ rw there (
        let s = shown_at track place there in
        let nodes = l.whole.ends (node_at l track place) in
        λ k d b.
        let p = place_has l track nodes _ (All-contains_itself (places_of l track nodes) k d b) in
        subst (λ (v : ℕ). v < l.places) p.is (are.low track p.node (end_below (node_at l track place) p.node s.within p.contained) p.shown))
    | inr other ↦ rw other (λ k d b. absurd (omega (arith, b)))
  ]

  ends_short : (track place : ℕ) → length ((plane_of l track).ends place) < 2 ^ 32
  ends_short track place = grind (arith, length-map, filter_few)

  plane_lawful : (track : ℕ) → IsLawful (plane_of l track)
  plane_lawful track = record {
    few = omega (arith, are.few);
    ends_below = λ place b. ends_low track place;
    ends_few = λ place b. ends_short track place;
    cost_from = λ place b. elim (cases_Bool (is_there l track place)) [
      | inl there ↦ rw there (are.lawful.cost_from (node_at l track place) (shown_at track place there).within)
      | inr other ↦ rw other (omega arith)
    ];
    cost_to = λ place b. elim (cases_Bool (is_there l track place)) [
      | inl there ↦ rw there (are.lawful.cost_to (node_at l track place) (shown_at track place there).within)
      | inr other ↦ rw other (omega arith)
    ];
  }

  in_order : (track place other : ℕ) → is_there l track place ≡ true → is_there l track other ≡ true → place < other → node_at l track place < node_at l track other
  in_order track place other p o b = grind (arith, shown_at)

  is_plane : (track : ℕ) → track < l.tracks → IsPlane (family_of l) track
  unfolding family_of
  is_plane track few = record {
    lawful = plane_lawful track;
    count = refl;
    exit_there = is_place track l.goal are.goal (are.goal_shown track few);
    exit_is = at_place track l.goal are.goal (are.goal_shown track few);
    order = λ place other p o b. in_order track place other p.there o.there b;
    within = λ place p. (shown_at track place p.there).within;
    cost = λ place p. rw p.there refl;
    ends_there = λ place end p c.
        let s = shown_at track place p.there in
        let q = place_has l track (l.whole.ends (node_at l track place)) end (rw p.there at c) in
        subst (IsPlace (family_of l) track) q.is (is_place track q.node (end_below (node_at l track place) q.node s.within q.contained) q.shown);
    sound = λ place end p c.
        let s = shown_at track place p.there in
        let q = place_has l track (l.whole.ends (node_at l track place)) end (rw p.there at c) in
        let e : q.node ≡ node_at l track end = sym (at_place track q.node (end_below (node_at l track place) q.node s.within q.contained) q.shown) ∙ ap (node_at l track) q.is in
        subst (Contains (l.whole.ends (node_at l track place))) e q.contained;
    complete = λ place node rest p c on leads.
        let s = shown_at track place p.there in
        let b = end_below (node_at l track place) node s.within c in
        let shown = are.ends_shown track (node_at l track place) node rest few s.within s.shown c on leads in
        (l.place node, rw p.there (has_place l track (l.whole.ends (node_at l track place)) node c shown), at_place track node b shown);
    entries_there = λ entry c.
        let q = place_has l track l.starts entry c in
        subst (IsPlace (family_of l) track) q.is (is_place track q.node (All-contains (λ (v : ℕ). v < l.whole.count) l.starts q.node are.starts q.contained) q.shown);
    entries_sound = λ entry c.
        let q = place_has l track l.starts entry c in
        let b = All-contains (λ (v : ℕ). v < l.whole.count) l.starts q.node are.starts q.contained in
        subst (Contains l.starts) (sym (at_place track q.node b q.shown) ∙ ap (node_at l track) q.is) q.contained;
    entries_complete = λ node rest c on leads.
        let b = All-contains (λ (v : ℕ). v < l.whole.count) l.starts node are.starts c in
        let shown = are.starts_shown track node rest few c on leads in
        (l.place node, has_place l track l.starts node c shown, at_place track node b shown);
  }

  pub is_family : IsFamily (family_of l)
  unfolding family_of
  is_family = search (is_plane, arith)
