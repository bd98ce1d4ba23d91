-- The two lanes are a family of planes.
use Rattle.flow_tests.proofs.Prelude.{◌≡◌, ℕ, zero, suc, refl, ◌+◌, ◌*◌, ◌%◌, ◌/◌, ◌^◌, ◌<◌, ◌≤◌, ◌⊎◌, Some, List, [], ◌∷◌, length, map, get_or, arith, ◌∙◌, inl, inr, sym, ap, subst, All, Contains, cases_lt, cases_eq, length-map, sum_by-cons, All-nil, All-cons, Contains-get_or, IsLawful, Leads, IsPath, cost_of, IsLowerBound, Path, Family, IsOn, IsPlane, IsFamily, IsPlaneBound, IsKnown, AreStarts, Start, steps, number, track_of, lanes_graph, lane, lanes}

-- ---- members

first_in : (x : ℕ) (xs : List ℕ) → Contains (x ∷ xs) x
first_in x xs = (0, omega arith, refl)

further_in : (x y : ℕ) (xs : List ℕ) → Contains xs y → Contains (x ∷ xs) y
further_in x y xs c = (suc c.0, omega (arith, c.1), c.2)

cases : (x y : ℕ) (xs : List ℕ) → Contains (x ∷ xs) y → (x ≡ y) ⊎ Contains xs y
cases x y xs (zero, b, e) = inl e
cases x y xs (suc k, b, e) = inr (k, omega arith, e)

none_in : (y : ℕ) → Contains [] y → ⊥
none_in y c = omega (arith, c.1)

from_map : (h : ℕ → ℕ) (xs : List ℕ) (y : ℕ) → Contains (map h xs) y → (x : ℕ) × Contains xs x × (h x ≡ y)
from_map h [] y c = absurd (none_in y c)
from_map h (z ∷ xs) y c = elim (cases (h z) y (map h xs) c) [
  | inl e ↦ (z, first_in z xs, e)
  | inr d ↦ (let r = from_map h xs y d in (r.0, further_in z r.0 xs r.1, r.2))
]

to_map : (h : ℕ → ℕ) (xs : List ℕ) (x : ℕ) → Contains xs x → Contains (map h xs) (h x)
to_map h [] x c = absurd (none_in x c)
to_map h (z ∷ xs) x c = elim (cases z x xs c) [
  | inl e ↦ subst (λ (v : ℕ). Contains (h z ∷ map h xs) (h v)) e (first_in (h z) (map h xs))
  | inr d ↦ further_in (h z) (h x) (map h xs) (to_map h xs x d)
]

-- ---- steps

one_of : (a b x : ℕ) → Contains (a ∷ b ∷ []) x → (a ≡ x) ⊎ (b ≡ x)
one_of a b x c = elim (cases a x (b ∷ []) c) [
  | inl e ↦ inl e
  | inr d ↦ elim (cases b x [] d) [ inl e ↦ inr e | inr n ↦ absurd (none_in x n) ]
]

step_in : (p q : ℕ) → Contains (steps p) q → (p < q) × (q ≤ 3)
step_in zero q c = elim (one_of 1 2 q c) [ inl e ↦ (omega (arith, e), omega (arith, e)) | inr e ↦ (omega (arith, e), omega (arith, e)) ]
step_in (suc zero) q c = elim (one_of 2 3 q c) [ inl e ↦ (omega (arith, e), omega (arith, e)) | inr e ↦ (omega (arith, e), omega (arith, e)) ]
step_in (suc (suc zero)) q c = elim (cases 3 q [] c) [ inl e ↦ (omega (arith, e), omega (arith, e)) | inr n ↦ absurd (none_in q n) ]
step_in (suc (suc (suc n))) q c = absurd (none_in q c)

few_steps : (p : ℕ) → length (steps p) < 2 ^ 32
few_steps zero = omega arith
few_steps (suc zero) = omega arith
few_steps (suc (suc zero)) = omega arith
few_steps (suc (suc (suc n))) = omega arith

-- ---- numbers

number_at : (k p : ℕ) → p < 3 → number k p ≡ 2 * p + k
number_at k zero l = refl
number_at k (suc zero) l = refl
number_at k (suc (suc zero)) l = refl
number_at k (suc (suc (suc n))) l = absurd (omega (arith, l))

ends_at : (dear factor k p : ℕ) → k < 2 → p < 4 → (lanes_graph dear factor).ends (number k p) ≡ map (number k) (steps p)
ends_at dear factor zero zero a b = refl
ends_at dear factor zero (suc zero) a b = refl
ends_at dear factor zero (suc (suc zero)) a b = refl
ends_at dear factor zero (suc (suc (suc zero))) a b = refl
ends_at dear factor zero (suc (suc (suc (suc n)))) a b = absurd (omega (arith, b))
ends_at dear factor (suc zero) zero a b = refl
ends_at dear factor (suc zero) (suc zero) a b = refl
ends_at dear factor (suc zero) (suc (suc zero)) a b = refl
ends_at dear factor (suc zero) (suc (suc (suc zero))) a b = refl
ends_at dear factor (suc zero) (suc (suc (suc (suc n)))) a b = absurd (omega (arith, b))
ends_at dear factor (suc (suc k)) p a b = absurd (omega (arith, a))

lane_at : (k p : ℕ) → k < 2 → p < 3 → track_of (number k p) ≡ Some k
lane_at zero zero a b = refl
lane_at zero (suc zero) a b = refl
lane_at zero (suc (suc zero)) a b = refl
lane_at zero (suc (suc (suc n))) a b = absurd (omega (arith, b))
lane_at (suc zero) zero a b = refl
lane_at (suc zero) (suc zero) a b = refl
lane_at (suc zero) (suc (suc zero)) a b = refl
lane_at (suc zero) (suc (suc (suc n))) a b = absurd (omega (arith, b))
lane_at (suc (suc k)) p a b = absurd (omega (arith, a))

-- the lane and the place of a wire
record IsWire (node : ℕ) : Type 0 where
  track : ℕ
  place : ℕ
  lane : track < 2
  wire : place < 3
  is : number track place ≡ node

wire_at : (node : ℕ) → node < 6 → IsWire node
wire_at zero l = record { track = 0; place = 0; lane = omega arith; wire = omega arith; is = refl }
wire_at (suc zero) l = record { track = 1; place = 0; lane = omega arith; wire = omega arith; is = refl }
wire_at (suc (suc zero)) l = record { track = 0; place = 1; lane = omega arith; wire = omega arith; is = refl }
wire_at (suc (suc (suc zero))) l = record { track = 1; place = 1; lane = omega arith; wire = omega arith; is = refl }
wire_at (suc (suc (suc (suc zero)))) l = record { track = 0; place = 2; lane = omega arith; wire = omega arith; is = refl }
wire_at (suc (suc (suc (suc (suc zero))))) l = record { track = 1; place = 2; lane = omega arith; wire = omega arith; is = refl }
wire_at (suc (suc (suc (suc (suc (suc n)))))) l = absurd (omega (arith, l))

same_track : (node j k : ℕ) → track_of node ≡ Some j → track_of node ≡ Some k → j ≡ k
same_track node j k e f = cc

not_some : (k : ℕ) → track_of 6 ≡ Some k → ⊥
not_some k e = cc

-- ---- costs

small : (dear x : ℕ) → dear ≤ 2 ^ 35 → 1 + dear + x % 5 ≤ 2 ^ 36
small dear x l = omega (arith, l)

module _ (dear factor : ℕ) (few : dear ≤ 2 ^ 35) where
  f : Family
  f = lanes dear factor

  whole_lawful : IsLawful (lanes_graph dear factor)
  whole_lawful = record {
    few = omega arith;
    ends_below = λ node b k d l. ends_below node b (get_or ((lanes_graph dear factor).ends node) k d) (Contains-get_or ((lanes_graph dear factor).ends node) k d l);
    ends_few = λ node b. omega (arith, few_steps (node / 2), length-map (steps (node / 2)) (number (node % 2)));
    cost_from = λ node b. omega arith;
    cost_to = λ node b. small dear (node * factor) few;
  }
    where
      ends_below : (node : ℕ) → node < 7 → (x : ℕ) → Contains ((lanes_graph dear factor).ends node) x → x < 7
      ends_below node b x c =
          let r = from_map (number (node % 2)) (steps (node / 2)) x c in
          let s = step_in (node / 2) r.0 r.1 in
          elim (cases_lt r.0 3) [
            | inl l ↦ omega (arith, r.2, number_at (node % 2) r.0 l, l)
            | inr h ↦ (let e : r.0 ≡ 3 = omega (arith, h, s.1) in omega (arith, r.2, ap (number (node % 2)) e))
          ]

  lane_lawful : (k : ℕ) → IsLawful (lane dear factor k)
  lane_lawful k = record {
    few = omega arith;
    ends_below = λ p b i d l. omega (arith, (step_in p (get_or (steps p) i d) (Contains-get_or (steps p) i d l)).1);
    ends_few = λ p b. few_steps p;
    cost_from = λ p b. omega arith;
    cost_to = λ p b. small dear (number k p * factor) few;
  }

  -- ---- ways

  from_goal : (rest : List ℕ) → Leads (lanes_graph dear factor) 6 6 rest → rest ≡ []
  from_goal [] l = refl
  from_goal (x ∷ xs) l = absurd (none_in x l.0)

  on_lane : (rest : List ℕ) (k p : ℕ) → k < 2 → p < 3 → Leads (lanes_graph dear factor) 6 (number k p) rest → All (IsOn (lanes dear factor) k) rest
  on_lane [] k p a b l = All-nil (IsOn (lanes dear factor) k)
  on_lane (x ∷ xs) k p a b l =
      let r = from_map (number k) (steps p) x (subst (λ (ends : List ℕ). Contains ends x) (ends_at dear factor k p a (omega (arith, b))) l.0) in
      let s = step_in p r.0 r.1 in
      elim (cases_lt r.0 3) [
        | inl low ↦
            (let way : Leads (lanes_graph dear factor) 6 (number k r.0) xs = subst (λ (v : ℕ). Leads (lanes_graph dear factor) 6 v xs) (sym r.2) l.1 in
            let here : IsOn (lanes dear factor) k x = subst (λ (v : ℕ). IsOn (lanes dear factor) k v) r.2 (λ other e. same_track (number k r.0) other k e (lane_at k r.0 a low)) in
            All-cons (IsOn (lanes dear factor) k) x xs here (on_lane xs k r.0 a low way))
        | inr high ↦
            (let q : r.0 ≡ 3 = omega (arith, high, s.1) in
            let goal : x ≡ 6 = sym r.2 ∙ ap (number k) q in
            let way : Leads (lanes_graph dear factor) 6 6 xs = subst (λ (v : ℕ). Leads (lanes_graph dear factor) 6 v xs) goal l.1 in
            let here : IsOn (lanes dear factor) k x = subst (λ (v : ℕ). IsOn (lanes dear factor) k v) (sym goal) (λ other e. absurd (not_some other e)) in
            All-cons (IsOn (lanes dear factor) k) x xs here (subst (λ (ys : List ℕ). All (IsOn (lanes dear factor) k) ys) (sym (from_goal xs way)) (All-nil (IsOn (lanes dear factor) k))))
      ]

  wire_of : (node k : ℕ) → node < 7 → track_of node ≡ Some k → node < 6
  wire_of node k b e = elim (cases_eq node 6) [
    | inl goal ↦ absurd (not_some k (subst (λ (v : ℕ). track_of v ≡ Some k) goal e))
    | inr o ↦ omega (arith, b, o)
  ]

  stays : (node k : ℕ) (rest : List ℕ) → node < 7 → track_of node ≡ Some k → Leads (lanes_graph dear factor) 6 node rest → All (IsOn (lanes dear factor) k) rest
  stays node k rest b e l =
      let w = wire_at node (wire_of node k b e) in
      let same : w.track ≡ k = same_track node w.track k (subst (λ (v : ℕ). track_of v ≡ Some w.track) w.is (lane_at w.track w.place w.lane w.wire)) e in
      subst (λ (j : ℕ). All (IsOn (lanes dear factor) j) rest) same (on_lane rest w.track w.place w.lane w.wire (subst (λ (v : ℕ). Leads (lanes_graph dear factor) 6 v rest) (sym w.is) l))

  wires : (node k : ℕ) → node < 7 → track_of node ≡ Some k → k < 2
  wires node k b e =
      let w = wire_at node (wire_of node k b e) in
      omega (arith, w.lane, same_track node w.track k (subst (λ (v : ℕ). track_of v ≡ Some w.track) w.is (lane_at w.track w.place w.lane w.wire)) e)

  -- ---- a lane

  at_start : (k : ℕ) → k < 2 → Contains (0 ∷ 1 ∷ []) (number k 0)
  at_start zero l = first_in 0 (1 ∷ [])
  at_start (suc zero) l = further_in 0 1 (1 ∷ []) (first_in 1 [])
  at_start (suc (suc k)) l = absurd (omega (arith, l))

  rises : (k p q : ℕ) → k < 2 → q < 4 → p < q → number k p < number k q
  rises k p q a b l = elim (cases_lt q 3) [
    | inl low ↦ omega (arith, number_at k p (omega (arith, l, low)), number_at k q low, l)
    | inr high ↦ (let e : q ≡ 3 = omega (arith, high, b) in omega (arith, number_at k p (omega (arith, l, e)), ap (number k) e, a, l))
  ]

  number_below : (k p : ℕ) → k < 2 → p < 4 → number k p < 7
  number_below k p a b = elim (cases_lt p 3) [
    | inl low ↦ omega (arith, number_at k p low, a, low)
    | inr high ↦ (let e : p ≡ 3 = omega (arith, high, b) in omega (arith, ap (number k) e))
  ]

  start_node : (k node : ℕ) → Contains (0 ∷ 1 ∷ []) node → IsOn (lanes dear factor) k node → number k 0 ≡ node
  start_node k node c on = elim (one_of 0 1 node c) [
    | inl e ↦ omega (arith, e, (subst (λ (v : ℕ). IsOn (lanes dear factor) k v) (sym e) on) 0 refl)
    | inr e ↦ omega (arith, e, (subst (λ (v : ℕ). IsOn (lanes dear factor) k v) (sym e) on) 1 refl)
  ]

  is_plane : (k : ℕ) → k < 2 → IsPlane (lanes dear factor) k
  is_plane k a = record {
    lawful = lane_lawful k;
    count = refl;
    exit_there = record { within = omega arith; there = refl };
    exit_is = refl;
    order = λ p q x y l. rises k p q a y.within l;
    within = λ p x. number_below k p a x.within;
    cost = λ p x. refl;
    ends_there = λ p q x c. record { within = omega (arith, (step_in p q c).1); there = refl };
    sound = λ p q x c. subst (λ (ends : List ℕ). Contains ends (number k q)) (sym (ends_at dear factor k p a x.within)) (to_map (number k) (steps p) q c);
    complete = λ p node rest x c on l. from_map (number k) (steps p) node (subst (λ (ends : List ℕ). Contains ends node) (ends_at dear factor k p a x.within) c);
    entries_there = λ entry c. elim (cases 0 entry [] c) [
      | inl e ↦ record { within = omega (arith, e); there = refl }
      | inr n ↦ absurd (none_in entry n)
    ];
    entries_sound = λ entry c. elim (cases 0 entry [] c) [
      | inl e ↦ subst (λ (v : ℕ). Contains (0 ∷ 1 ∷ []) (number k v)) e (at_start k a)
      | inr n ↦ absurd (none_in entry n)
    ];
    entries_complete = λ node rest c on l. (0, first_in 0 [], start_node k node c on);
  }

  pub is_family : IsFamily (lanes dear factor)
  is_family = record {
    lawful = whole_lawful;
    starts = All-cons (λ (v : ℕ). v < 7) 0 (1 ∷ []) (omega arith) (All-cons (λ (v : ℕ). v < 7) 1 [] (omega arith) (All-nil (λ (v : ℕ). v < 7)));
    goal = omega arith;
    some = omega arith;
    few = omega arith;
    wires = wires;
    stays = stays;
    planes = is_plane;
  }

  -- ---- bounds

  pub one_at_least : (k p : ℕ) → p < 3 → IsLowerBound (lane dear factor k) 3 p (Some 1)
  one_at_least k p b [] l = absurd (omega (arith, l, b))
  one_at_least k p b (x ∷ xs) l = omega (arith, sum_by-cons (lane dear factor k).cost x xs)

  pub plane_bound : (k : ℕ) → IsPlaneBound (lanes dear factor) k 1
  plane_bound k [] p = absurd p
  plane_bound k (x ∷ xs) p = elim (cases 0 x [] p.0) [
    | inl e ↦ one_at_least k x (omega (arith, e)) xs p.1
    | inr n ↦ absurd (none_in x n)
  ]

  -- ---- the only start of a lane

  abbrev start : Start
  start = record { place = 0; ahead = 1 }

  only_start : (x : Start) → Contains (start ∷ []) x → start ≡ x
  only_start x (zero, b, e) = e
  only_start x (suc k, b, e) = absurd (omega (arith, b))

  pub the_starts : (k most : ℕ) (starts : List Start) → starts ≡ start ∷ [] → AreStarts (lanes dear factor) k most starts
  the_starts k most starts is = subst (λ (xs : List Start). AreStarts (lanes dear factor) k most xs) (sym is) (record {
    among = λ x c. subst (λ (v : Start). Contains (0 ∷ []) v.place) (only_start x c) (first_in 0 []);
    bounded = λ x c. subst (λ (v : Start). IsLowerBound (lane dear factor k) 3 v.place (Some v.ahead)) (only_start x c) (one_at_least k 0 (omega arith));
    all = λ entry c. inl c;
  })

-- ---- a path over all wires of the first lane

abbrev along : List ℕ
along = 0 ∷ 2 ∷ 4 ∷ 6 ∷ []

along_is_path : IsPath (lanes_graph 0 0) (0 ∷ 1 ∷ []) 6 along
along_is_path = (first_in 0 (1 ∷ []), (first_in 2 (4 ∷ []), (first_in 4 (6 ∷ []), (first_in 6 [], refl))))

pub along_known : (path : Path) → path.nodes.items ≡ along → path.cost ≡ 3 → IsKnown (lanes 0 0) path
along_known path is cost = record {
  is_path = subst (λ (nodes : List ℕ). IsPath (lanes_graph 0 0) (0 ∷ 1 ∷ []) 6 nodes) (sym is) along_is_path;
  cost = subst (λ (nodes : List ℕ). path.cost ≡ cost_of (lanes_graph 0 0) nodes) (sym is) cost;
}
