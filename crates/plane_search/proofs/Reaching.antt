-- A pass that enters places, and what each path costs at least when it ends.
use Rattle.plane_search.proofs.Prelude.{◌≡◌, ◌≢◌, ℕ, refl, ◌+◌, ◌<◌, ◌≤◌, ◌⊎◌, List, [], ◌∷◌, length, get_or, set, arith, ◌∙◌, inl, inr, sym, ap, subst, length-set, sum_by, All, Contains, IsPermutation, cases_lt, Contains-get_or, IsPermutation-sym, Contains-permutation, length_permutation, sum_by-cons, sum_by-set, Graph, IsLawful, Leads, CostsAtLeast, IsUnfit, AreNoCheaper, IsKeyed, IsOpen, IsFollowed, IsLimit, IsReaching, IsFollowing, IsBeginning, measure_of, Open}
use Rattle.plane_search.specs.Reach.{IsUnderWay}
use Rattle.plane_search.proofs.Members.{Contains-first, Contains_cases, Contains_further, at_index, below_next}
use Rattle.plane_search.proofs.Walking.{cost_cases, end_within, least_on}

-- ---- marks and limits that fall

unfit_on : (g : Graph) (goal limit low node cost : ℕ) (entered new : List ℕ) → low ≤ limit → get_or new node 0 ≤ get_or entered node 0 → IsUnfit g goal limit entered node cost → IsUnfit g goal low new node cost
unfit_on g goal limit low node cost entered new l falls h3 = grind arith

set_falls : (entered : List ℕ) (place cost node : ℕ) → place < length entered → cost ≤ get_or entered place 0 → get_or (set entered place cost) node 0 ≤ get_or entered node 0
set_falls entered place cost node l le = grind (arith, cost_cases)

followed_on : (g : Graph) (goal limit low node cost : ℕ) (entered new : List ℕ) → low ≤ limit → ((v : ℕ) → get_or new v 0 ≤ get_or entered v 0) → IsFollowed g goal limit entered node cost → IsFollowed g goal low new node cost
followed_on g goal limit low node cost entered new l falls followed end c = unfit_on g goal limit low end (cost + g.cost end) entered new l (falls end) (followed end c)

reaching_below : {g : Graph} {span : ℕ} {starts : List ℕ} {goal limit at : ℕ} {entered : List ℕ} {entries : List (Open ℕ)} (low : ℕ) → low ≤ limit → IsReaching g span starts goal limit at entered entries → IsReaching g span starts goal low at entered entries
reaching_below low l w = grind arith

-- ---- one more place is entered

abbrev pub entry_at : ℕ → ℕ → ℕ → Open ℕ
entry_at place cost key = record { place = place; cost = cost; key = key }

module _ {g : Graph} {span : ℕ} {starts : List ℕ} {goal limit at : ℕ} {entered : List ℕ} {entries new : List (Open ℕ)} (place cost key : ℕ) (w : IsReaching g span starts goal limit at entered entries) (b : place < g.count) (other : place ≢ goal)
    (less : cost ≤ get_or entered place 0) (sound : (best : ℕ) → AreNoCheaper g goal best starts → CostsAtLeast g goal best place cost) (least : CostsAtLeast g goal key place cost) (added : IsPermutation (entry_at place cost key ∷ entries) new) where
  inside : place < length entered
  inside = omega (arith, b, w.room)

  still : (item : Open ℕ) → Contains (entry_at place cost key ∷ entries) item → Contains new item
  still item c = Contains-permutation (entry_at place cost key ∷ entries) new item added c

  pub enters : IsReaching g span starts goal limit at (set entered place cost) new
  enters = record {
    room = omega (arith, w.room, length-set entered place cost);
    other = elim (cost_cases entered place goal cost inside) [
      | inl s ↦ absurd (other (sym s.0))
      | inr o ↦ omega (arith, o.1, w.other)
    ];
    keyed = λ item has. elim (Contains_cases (entry_at place cost key) item entries (Contains-permutation new (entry_at place cost key ∷ entries) item (IsPermutation-sym (entry_at place cost key ∷ entries) new added) has)) [
      | inl e ↦ subst (λ (o : Open ℕ). IsKeyed g goal o) e (record { within = b; least = least })
      | inr old ↦ w.keyed item old
    ];
    sound = λ best cheap node c small. elim (cost_cases entered place node cost inside) [
      | inl s ↦ subst (λ (d : ℕ). CostsAtLeast g goal best node d) (sym s.1) (subst (λ (v : ℕ). CostsAtLeast g goal best v cost) (sym s.0) (sound best cheap))
      | inr o ↦ subst (λ (d : ℕ). CostsAtLeast g goal best node d) (sym o.1) (w.sound best cheap node c (omega (arith, small, o.1)))
    ];
    done = λ node c small. elim (cost_cases entered place node cost inside) [
      | inl s ↦ inl (inl (entry_at place cost key, still (entry_at place cost key) (Contains-first (entry_at place cost key) entries), sym s.0, sym s.1))
      | inr o ↦ subst (λ (d : ℕ). (IsOpen new node d ⊎ IsFollowed g goal limit (set entered place cost) node d) ⊎ (node ≡ at)) (sym o.1)
          (elim (w.done node c (omega (arith, small, o.1))) [
            | inl d ↦ inl (elim d [
              | inl item ↦ inl (item.0, still item.0 (Contains_further (entry_at place cost key) item.0 entries item.1), item.2, item.3)
              | inr followed ↦ inr (followed_on g goal limit limit node (get_or entered node 0) entered (set entered place cost) (omega arith) (λ v. set_falls entered place cost v inside less) followed)
            ])
            | inr e ↦ inr e
          ])
    ];
  }

pub measure_falls : (entered : List ℕ) (place cost : ℕ) (entries new : List (Open ℕ)) (item : Open ℕ) → place < length entered → cost < get_or entered place 0 → IsPermutation (item ∷ entries) new → measure_of (set entered place cost) new ≤ measure_of entered entries
measure_falls entered place cost entries new item b lower added = omega (arith, sum_by-set (λ (c : ℕ). c) entered place cost 0 b, lower, length_permutation (item ∷ entries) new added)

-- ---- the starts

-- no place is entered yet
pub beginning : {g : Graph} {span : ℕ} {starts : List ℕ} {goal limit : ℕ} {entered : List ℕ} {entries : List (Open ℕ)} → g.count ≤ length entered → goal < g.count → All (λ (cost : ℕ). span ≤ cost) entered → entries ≡ [] → IsBeginning g span starts goal limit 0 entered entries
beginning room b all e = grind arith

pub start_passed : {g : Graph} {span : ℕ} {starts : List ℕ} {goal limit k : ℕ} {entered : List ℕ} {entries : List (Open ℕ)} → IsUnfit g goal limit entered (get_or starts k 0) 0 → IsBeginning g span starts goal limit k entered entries → IsBeginning g span starts goal limit (k + 1) entered entries
start_passed {g} {span} {starts} {goal} {limit} {k} {entered} unfit w = record { first = below_next (λ (i : ℕ). IsUnfit g goal limit entered (get_or starts i 0) 0) k w.first unfit; reaching = w.reaching }

pub start_entered : {g : Graph} {span : ℕ} {starts : List ℕ} {goal limit k : ℕ} {entered : List ℕ} {entries new : List (Open ℕ)} (start key : ℕ) → get_or starts k 0 ≡ start → Contains starts start → start < g.count → start ≢ goal → CostsAtLeast g goal key start 0
    → IsPermutation (entry_at start 0 key ∷ entries) new → IsBeginning g span starts goal limit k entered entries → IsBeginning g span starts goal limit (k + 1) (set entered start 0) new
start_entered {g} {span} {starts} {goal} {limit} {k} {entered} start key is among b other least added w =
    let inside : start < length entered = omega (arith, b, w.reaching.room) in
    record {
      first = below_next (λ (i : ℕ). IsUnfit g goal limit (set entered start 0) (get_or starts i 0) 0) k
          (λ i l. unfit_on g goal limit limit (get_or starts i 0) 0 entered (set entered start 0) (omega arith) (set_falls entered start 0 (get_or starts i 0) inside (omega arith)) (w.first i l))
          (elim (cost_cases entered start (get_or starts k 0) 0 inside) [ inl s ↦ inl (omega (arith, s.1)) | inr o ↦ absurd (o.0 is) ]);
      reaching = enters start 0 key w.reaching b other (omega arith) (λ best cheap. cheap start among) least added;
    }

pub begun : {g : Graph} {span : ℕ} {starts : List ℕ} {goal limit k : ℕ} {entered : List ℕ} {entries : List (Open ℕ)} → length starts ≤ k → IsBeginning g span starts goal limit k entered entries → IsUnderWay g span starts goal limit limit entered entries
begun {g} {span} {starts} {goal} {limit} {k} {entered} all w = record {
  begun = λ start c. (let at = at_index starts start c in subst (λ (x : ℕ). IsUnfit g goal limit entered x 0) at.2 (w.first at.0 (omega (arith, at.1, all))));
  met = inl refl;
  reaching = w.reaching;
}

-- ---- the edges of a place

pub end_passed : {g : Graph} {span : ℕ} {starts : List ℕ} {goal most limit k : ℕ} {item : Open ℕ} {entered : List ℕ} {entries : List (Open ℕ)} (place low : ℕ) → low ≤ limit → (IsLimit g starts goal most limit → IsLimit g starts goal most low) → get_or (g.ends item.place) k 0 ≡ place → IsUnfit g goal low entered place (item.cost + g.cost place) → IsFollowing g span starts goal most limit item k entered entries
    → IsFollowing g span starts goal most low item (k + 1) entered entries
end_passed {g} {span} {starts} {goal} {most} {limit} {k} {item} {entered} place low l met is unfit w = record {
  begun = λ start c. unfit_on g goal limit low start 0 entered entered l (omega arith) (w.begun start c);
  met = met w.met;
  reaching = reaching_below low l w.reaching;
  within = w.within;
  here = w.here;
  first = below_next (λ (i : ℕ). IsUnfit g goal low entered (get_or (g.ends item.place) i 0) (item.cost + g.cost (get_or (g.ends item.place) i 0))) k
      (λ i b. unfit_on g goal limit low (get_or (g.ends item.place) i 0) (item.cost + g.cost (get_or (g.ends item.place) i 0)) entered entered l (omega arith) (w.first i b))
      (subst (λ (v : ℕ). IsUnfit g goal low entered v (item.cost + g.cost v)) (sym is) unfit);
}

-- a path over the item's node and the goal
pub met_at_goal : {g : Graph} {span : ℕ} {starts : List ℕ} {goal most limit k : ℕ} {item : Open ℕ} {entered : List ℕ} {entries : List (Open ℕ)} (place low : ℕ) → place ≡ goal → k < length (g.ends item.place) → get_or (g.ends item.place) k 0 ≡ place → item.cost < span → low + 1 ≡ item.cost + g.cost place
    → IsFollowing g span starts goal most limit item k entered entries → IsLimit g starts goal most low
met_at_goal {g} {span} {starts} {goal} {most} {limit} {k} {item} {entered} place low at within is small sum w = inr (λ best cheap.
    let among : Contains (g.ends item.place) place = subst (λ (x : ℕ). Contains (g.ends item.place) x) is (Contains-get_or (g.ends item.place) k 0 within) in
    let from : CostsAtLeast g goal best item.place item.cost = subst (λ (d : ℕ). CostsAtLeast g goal best item.place d) w.here (w.reaching.sound best cheap item.place w.within (omega (arith, w.here, small))) in
    omega (arith, from (place ∷ []) (among, at), sum_by-cons g.cost place [], sum))

pub end_entered : {g : Graph} {span : ℕ} {starts : List ℕ} {goal most limit k : ℕ} {item : Open ℕ} {entered : List ℕ} {entries new : List (Open ℕ)} → IsLawful g → (place cost key : ℕ) → cost ≡ item.cost + g.cost place → k < length (g.ends item.place) → get_or (g.ends item.place) k 0 ≡ place → place < g.count → place ≢ goal
    → cost < get_or entered place 0 → cost < span → CostsAtLeast g goal key place cost → IsPermutation (entry_at place cost key ∷ entries) new → IsFollowing g span starts goal most limit item k entered entries
    → IsFollowing g span starts goal most limit item (k + 1) (set entered place cost) new
end_entered {g} {span} {starts} {goal} {most} {limit} {k} {item} {entered} law place cost key sum within is b other less small least added w =
    let inside : place < length entered = omega (arith, b, w.reaching.room) in
    let among : Contains (g.ends item.place) place = subst (λ (x : ℕ). Contains (g.ends item.place) x) is (Contains-get_or (g.ends item.place) k 0 within) in
    let falls : (v : ℕ) → get_or (set entered place cost) v 0 ≤ get_or entered v 0 = λ v. set_falls entered place cost v inside (omega (arith, less)) in
    let still : get_or (set entered place cost) item.place 0 ≡ item.cost = elim (cost_cases entered place item.place cost inside) [
      | inl s ↦ absurd (omega (arith, less, sum, w.here, ap (λ (v : ℕ). get_or entered v 0) s.0, law.cost_from place b))
      | inr o ↦ o.1 ∙ w.here
    ] in
    let from : (best : ℕ) → AreNoCheaper g goal best starts → CostsAtLeast g goal best item.place item.cost = λ best cheap. subst (λ (d : ℕ). CostsAtLeast g goal best item.place d) w.here (w.reaching.sound best cheap item.place w.within (omega (arith, w.here, small, sum))) in
    record {
      begun = λ start c. unfit_on g goal limit limit start 0 entered (set entered place cost) (omega arith) (falls start) (w.begun start c);
      met = w.met;
      reaching = enters place cost key w.reaching b other (omega (arith, less))
          (λ best cheap. subst (λ (d : ℕ). CostsAtLeast g goal best place d) (sym sum) (least_on g goal best item.place item.cost place among (from best cheap))) least added;
      within = w.within;
      here = still;
      first = below_next (λ (i : ℕ). IsUnfit g goal limit (set entered place cost) (get_or (g.ends item.place) i 0) (item.cost + g.cost (get_or (g.ends item.place) i 0))) k
          (λ i l. unfit_on g goal limit limit (get_or (g.ends item.place) i 0) (item.cost + g.cost (get_or (g.ends item.place) i 0)) entered (set entered place cost) (omega arith) (falls (get_or (g.ends item.place) i 0)) (w.first i l))
          (subst (λ (v : ℕ). IsUnfit g goal limit (set entered place cost) v (item.cost + g.cost v)) (sym is)
          (elim (cost_cases entered place place cost inside) [ inl s ↦ inl (omega (arith, s.1, sum)) | inr o ↦ absurd (o.0 refl) ]));
    }

pub all_followed : {g : Graph} {span : ℕ} {starts : List ℕ} {goal most limit k : ℕ} {item : Open ℕ} {entered : List ℕ} {entries : List (Open ℕ)} → length (g.ends item.place) ≤ k → IsFollowing g span starts goal most limit item k entered entries → IsUnderWay g span starts goal most limit entered entries
all_followed {g} {span} {starts} {goal} {most} {limit} {k} {item} {entered} all w = record {
  begun = w.begun;
  met = w.met;
  reaching = record {
    room = w.reaching.room;
    other = w.reaching.other;
    keyed = w.reaching.keyed;
    sound = w.reaching.sound;
    done = λ node b s. elim (w.reaching.done node b s) [
      | inl d ↦ inl d
      | inr e ↦ inl (inr (here node e))
    ];
  };
}
  where
    ends_done : IsFollowed g goal limit entered item.place item.cost
    ends_done end c = let at = at_index (g.ends item.place) end c in subst (λ (x : ℕ). IsUnfit g goal limit entered x (item.cost + g.cost x)) at.2 (w.first at.0 (omega (arith, at.1, all)))

    here : (node : ℕ) → node ≡ item.place → IsFollowed g goal limit entered node (get_or entered node 0)
    here node e = subst (λ (v : ℕ). IsFollowed g goal limit entered v (get_or entered v 0)) (sym e) (subst (λ (c : ℕ). IsFollowed g goal limit entered item.place c) (sym w.here) ends_done)

-- ---- an entry is taken

taken_done : {g : Graph} {span : ℕ} {starts : List ℕ} {goal most limit : ℕ} {item : Open ℕ} {entered : List ℕ} {entries : List (Open ℕ)} → IsUnderWay g span starts goal most limit entered (item ∷ entries) → (node : ℕ) → node < g.count → get_or entered node 0 < span
    → (IsOpen entries node (get_or entered node 0) ⊎ IsFollowed g goal limit entered node (get_or entered node 0)) ⊎ ((item.place ≡ node) × (item.cost ≡ get_or entered node 0))
taken_done w node b s = search arith

-- The entry is up to date: its edges are followed next.
pub taken_next : {g : Graph} {span : ℕ} {starts : List ℕ} {goal most limit : ℕ} {item : Open ℕ} {entered : List ℕ} {entries : List (Open ℕ)} → item.cost ≡ get_or entered item.place 0 → IsUnderWay g span starts goal most limit entered (item ∷ entries) → IsFollowing g span starts goal most limit item 0 entered entries
taken_next {g} {span} {starts} {goal} {most} {limit} {item} {entered} {entries} same w = record {
  begun = w.begun;
  met = w.met;
  reaching = record {
    room = w.reaching.room;
    other = w.reaching.other;
    keyed = λ o has. w.reaching.keyed o (Contains_further item o entries has);
    sound = w.reaching.sound;
    done = λ node b s. elim (taken_done w node b s) [ inl d ↦ inl d | inr e ↦ inr (sym e.0) ];
  };
  within = (w.reaching.keyed item (Contains-first item entries)).within;
  here = sym same;
  first = λ k l. absurd (omega (arith, l));
}

-- The entry is outdated.
pub taken_over : {g : Graph} {span : ℕ} {starts : List ℕ} {goal most limit : ℕ} {item : Open ℕ} {entered : List ℕ} {entries : List (Open ℕ)} → item.cost ≢ get_or entered item.place 0 → IsUnderWay g span starts goal most limit entered (item ∷ entries) → IsUnderWay g span starts goal most limit entered entries
taken_over {g} {span} {starts} {goal} {most} {limit} {item} {entered} {entries} other w = record {
  begun = w.begun;
  met = w.met;
  reaching = record {
    room = w.reaching.room;
    other = w.reaching.other;
    keyed = λ o has. w.reaching.keyed o (Contains_further item o entries has);
    sound = w.reaching.sound;
    done = λ node b s. elim (taken_done w node b s) [ inl d ↦ inl d | inr e ↦ absurd (other (e.1 ∙ ap (λ (v : ℕ). get_or entered v 0) (sym e.0))) ];
  };
}

-- The entries change places.
pub moved : {g : Graph} {span : ℕ} {starts : List ℕ} {goal most limit : ℕ} {entered : List ℕ} {entries new : List (Open ℕ)} → IsPermutation entries new → IsUnderWay g span starts goal most limit entered entries → IsUnderWay g span starts goal most limit entered new
moved {g} {span} {starts} {goal} {most} {limit} {entered} {entries} {new} same w = record {
  begun = w.begun;
  met = w.met;
  reaching = record {
    room = w.reaching.room;
    other = w.reaching.other;
    keyed = λ item has. w.reaching.keyed item (Contains-permutation new entries item (IsPermutation-sym entries new same) has);
    sound = w.reaching.sound;
    done = λ node b s. elim (w.reaching.done node b s) [
      | inl d ↦ inl (elim d [ inl o ↦ inl (o.0, Contains-permutation entries new o.0 same o.1, o.2, o.3) | inr followed ↦ inr followed ])
      | inr e ↦ inr e
    ];
  };
}

-- ---- the end

module _ {g : Graph} {span : ℕ} {starts : List ℕ} {goal most limit : ℕ} {entered : List ℕ} {entries : List (Open ℕ)} (law : IsLawful g) (small : limit < span) (w : IsUnderWay g span starts goal most limit entered entries) (keys : (item : Open ℕ) → Contains entries item → limit < item.key) where
  dear : (node cost : ℕ) (rest : List ℕ) → node < g.count → IsUnfit g goal limit entered node cost → Leads g goal node rest → limit < cost + sum_by g.cost rest
  dear node cost rest b (inr more) leads = more rest leads
  dear node cost [] b (inl reached) leads = omega (arith, reached, w.reaching.other, ap (λ (v : ℕ). get_or entered v 0) leads, small)
  dear node cost (x ∷ rest) b (inl reached) leads = elim (cases_lt (get_or entered node 0) span) [
    | inl s ↦ elim (w.reaching.done node b s) [
      | inl d ↦ elim d [
        | inl o ↦
            (let keyed : CostsAtLeast g goal o.0.key node (get_or entered node 0) = subst (λ (c : ℕ). CostsAtLeast g goal o.0.key node c) o.3 (subst (λ (v : ℕ). CostsAtLeast g goal o.0.key v o.0.cost) o.2 (w.reaching.keyed o.0 o.1).least) in
            omega (arith, keys o.0 o.1, keyed (x ∷ rest) leads, reached))
        | inr followed ↦ omega (arith, dear x (get_or entered node 0 + g.cost x) rest (end_within g law node x b leads.0) (followed x leads.0) leads.1, sum_by-cons g.cost x rest, reached)
      ]
      | inr e ↦ absurd (omega (arith, e, b))
    ]
    | inr big ↦ omega (arith, big, reached, small)
  ]

  pub none_cheaper : ((start : ℕ) → Contains starts start → start < g.count) → AreNoCheaper g goal (limit + 1) starts
  none_cheaper within start c rest leads = omega (arith, dear start 0 rest (within start c) (w.begun start c) leads)
