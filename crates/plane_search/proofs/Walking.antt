-- A walk whose stops are the way that is being tried.
use Rattle.plane_search.proofs.Prelude.{◌≡◌, ◌≢◌, ℕ, refl, ◌+◌, ◌-◌, ◌<◌, ◌≤◌, ◌⊎◌, Option, Some, None, IfNone, List, [], ◌∷◌, ◌++◌, length, reverse, get_or, set, arith, ◌∙◌, inl, inr, sym, ap, subst, length-set, sum_by, Contains, option_to_list, nat_cmp, slice_cmp, Less, cases_lt, reverse-append, get_or-set_same, get_or-set_other, sum_by-cons, All-contains, Contains-get_or, Graph, IsLawful, Leads, IsPath, cost_of, CostsAtLeast, CostsMore, IsUnfit, AreUnfit, IsNext, IsStop, IsWalking, IsBetween, IsLeastFrom, places_in, stop_at, after_step, Stop, Step}
use Rattle.plane_search.proofs.Members.{Contains-first, only_contained, at_index}
use Rattle.plane_search.proofs.Order.{not_less_then}

-- ---- the stops, the last one first

-- The stop's last edge leads to the node, at this cost, and no lesser end leads to the goal as
-- cheaply as the best.
pub record IsStepOn (g : Graph) (goal best : ℕ) (stop : Stop) (node cost : ℕ) : Type 0 where
  pub some : 1 ≤ stop.next_edge
  pub within : stop.next_edge ≤ length (g.ends stop.place)
  pub end : get_or (g.ends stop.place) (stop.next_edge - 1) 0 ≡ node
  pub order : (k : ℕ) → k < length (g.ends stop.place) → get_or (g.ends stop.place) k 0 < node → k + 1 < stop.next_edge
  pub dear : (k : ℕ) → k + 1 < stop.next_edge → CostsMore g goal best (get_or (g.ends stop.place) k 0) (stop.cost + g.cost (get_or (g.ends stop.place) k 0))
  pub sum : cost ≡ stop.cost + g.cost node

-- The node comes after the last stop, or is the start.
abbrev pub Follows : Graph → ℕ → ℕ → ℕ → ℕ → ℕ → List Stop → Type 0
Follows g goal best start node cost [] = (node ≡ start) × (cost ≡ 0)
Follows g goal best start node cost (stop ∷ below) = IsStepOn g goal best stop node cost

pub record IsStopAt (g : Graph) (goal best : ℕ) (node cost : ℕ) : Type 0 where
  pub within : node < g.count
  pub other : node ≢ goal
  pub cheap : cost ≤ best
  pub least : CostsAtLeast g goal best node cost

abbrev pub IsTrail : Graph → ℕ → ℕ → ℕ → List Stop → Type 0
IsTrail g goal best start [] = Unit {0}
IsTrail g goal best start (stop ∷ below) = IsStopAt g goal best stop.place stop.cost × (Follows g goal best start stop.place stop.cost below × IsTrail g goal best start below)

-- Over the first ends of the stop's edges the goal is dearer than the best.
abbrev pub AreDear : Graph → ℕ → ℕ → Stop → ℕ → Type 0
AreDear g goal best stop count = (k : ℕ) → k < count → CostsMore g goal best (get_or (g.ends stop.place) k 0) (stop.cost + g.cost (get_or (g.ends stop.place) k 0))

-- What was tried is dear: the last stop's edges before the next one, or all ways from the start.
abbrev pub IsTried : Graph → ℕ → ℕ → ℕ → List Stop → Type 0
IsTried g goal best start [] = CostsMore g goal best start 0
IsTried g goal best start (stop ∷ below) = AreDear g goal best stop stop.next_edge

-- the walk before it takes the last stop
pub record IsOnWay (g : Graph) (span goal best start : ℕ) (costs : List ℕ) (stops : List Stop) : Type 0 where
  pub trail : IsTrail g goal best start stops
  pub tried : IsTried g goal best start stops
  pub walking : IsWalking g span goal best costs stops

pub end_within : (g : Graph) → IsLawful g → (node end : ℕ) → node < g.count → Contains (g.ends node) end → end < g.count
end_within g law node end b c = All-contains (λ (x : ℕ). x < g.count) (g.ends node) end (law.ends_below node b) c

-- ---- a place and its cost in a list of marks

pub cost_cases : (costs : List ℕ) (place v cost : ℕ) → place < length costs → ((v ≡ place) × (get_or (set costs place cost) v 0 ≡ cost)) ⊎ ((v ≢ place) × (get_or (set costs place cost) v 0 ≡ get_or costs v 0))
cost_cases costs place v cost l = grind (arith, get_or-set_same, get_or-set_other)

-- at a higher cost everything is dearer
dearer : (g : Graph) (goal best node c d : ℕ) → c < d → CostsAtLeast g goal best node c → CostsMore g goal best node d
dearer g goal best node c d l least rest leads = omega (arith, l, least rest leads)

as_dear : (g : Graph) (goal best node c d : ℕ) → c ≤ d → CostsMore g goal best node c → CostsMore g goal best node d
as_dear g goal best node c d l more rest leads = omega (arith, l, more rest leads)

above : (g : Graph) (goal best node d : ℕ) → best < d → CostsMore g goal best node d
above g goal best node d l rest leads = omega (arith, l)

-- no path over the end of an edge is cheaper
pub least_on : (g : Graph) (goal best node cost end : ℕ) → Contains (g.ends node) end → CostsAtLeast g goal best node cost → CostsAtLeast g goal best end (cost + g.cost end)
least_on g goal best node cost end c least rest leads = omega (arith, least (end ∷ rest) (c, leads), sum_by-cons g.cost end rest)

-- Stops cost no more than the last one.
below_last : (g : Graph) (goal best start : ℕ) (stop : Stop) (below : List Stop) (node cost : ℕ) → IsTrail g goal best start (stop ∷ below) → IsStop (stop ∷ below) node cost → cost ≤ stop.cost
below_last g goal best start stop [] node cost t (inl e) = omega (arith, e.1)
below_last g goal best start stop [] node cost t (inr i) = absurd i
below_last g goal best start stop (p ∷ below) node cost t (inl e) = omega (arith, e.1)
below_last g goal best start stop (p ∷ below) node cost t (inr i) = omega (arith, below_last g goal best start p below node cost t.1.1 i, t.1.0.sum)

-- stops from the last one, after one is pushed or removed
pub reverse-push : (stop : Stop) (xs : List Stop) → reverse (xs ++ stop ∷ []) ≡ stop ∷ reverse xs
reverse-push stop xs = reverse-append xs (stop ∷ [])

-- ---- the path over the stops

abbrev pub onto : List Stop → List ℕ → List ℕ
onto [] rest = rest
onto (stop ∷ below) rest = onto below (stop.place ∷ rest)

onto-append : (xs bs : List Stop) (rest : List ℕ) → onto (xs ++ bs) rest ≡ onto bs (onto xs rest)
onto-append [] bs rest = refl
onto-append (stop ∷ xs) bs rest = onto-append xs bs (stop.place ∷ rest)

pub path_of : (xs : List Stop) (rest : List ℕ) → onto (reverse xs) rest ≡ places_in xs ++ rest
path_of [] rest = refl
path_of (stop ∷ xs) rest = rw (reverse-append (stop ∷ []) xs, onto-append (reverse xs) (stop ∷ []) rest) (ap (λ z. stop.place ∷ z) (path_of xs rest))

module _ {g : Graph} {span goal best start : ℕ} (law : IsLawful g) (few : best < span) where
  -- ---- the ends of the last stop's edges

  module _ (costs : List ℕ) (stop : Stop) (below : List Stop) (w : IsOnWay g span goal best start costs (stop ∷ below)) where
    at_end : (k : ℕ) → k < length (g.ends stop.place) → get_or (g.ends stop.place) k 0 < g.count
    at_end k l = end_within g law stop.place (get_or (g.ends stop.place) k 0) w.trail.0.within (Contains-get_or (g.ends stop.place) k 0 l)

    -- What is unfit is too dear.
    unfit_dear : (k : ℕ) → k < length (g.ends stop.place) → IsUnfit g goal best costs (get_or (g.ends stop.place) k 0) (stop.cost + g.cost (get_or (g.ends stop.place) k 0))
        → CostsMore g goal best (get_or (g.ends stop.place) k 0) (stop.cost + g.cost (get_or (g.ends stop.place) k 0))
    unfit_dear k l (inr more) = more
    unfit_dear k l (inl entered) =
        let x : ℕ = get_or (g.ends stop.place) k 0 in
        let b : x < g.count = at_end k l in
        let c : ℕ = stop.cost + g.cost x in
        elim (cases_lt (get_or costs x 0) span) [
          | inr big ↦ above g goal best x c (omega (arith, big, entered, few))
          | inl small ↦ elim (w.walking.done x b small) [
            | inl i ↦ (let low = below_last g goal best start stop below x (get_or costs x 0) w.trail i in
                dearer g goal best x (get_or costs x 0) c (omega (arith, low, law.cost_from x b)) (w.walking.least x b small))
            | inr more ↦ as_dear g goal best x (get_or costs x 0) c entered more
          ]
        ]

    -- the first ends are dear
    pub dear_until : (to : ℕ) → to ≤ length (g.ends stop.place) → AreUnfit g goal best costs stop stop.next_edge to → AreDear g goal best stop to
    dear_until to le unfit k l = elim (cases_lt k stop.next_edge) [
      | inl low ↦ w.tried k low
      | inr high ↦ unfit_dear k (omega (arith, l, le)) (unfit k high l)
    ]

    -- No way leads on from the stop.
    exhausted : AreUnfit g goal best costs stop stop.next_edge (length (g.ends stop.place)) → CostsMore g goal best stop.place stop.cost
    exhausted unfit [] leads = absurd (w.trail.0.other leads)
    exhausted unfit (x ∷ rest) leads =
        let at = at_index (g.ends stop.place) x leads.0 in
        let dear = dear_until (length (g.ends stop.place)) (omega arith) unfit at.0 at.1 in
        let here : CostsMore g goal best x (stop.cost + g.cost x) = subst (λ (v : ℕ). CostsMore g goal best v (stop.cost + g.cost v)) at.2 dear in
        omega (arith, here rest leads.1, sum_by-cons g.cost x rest)

    tried_below : (bs : List Stop) → Follows g goal best start stop.place stop.cost bs → CostsMore g goal best stop.place stop.cost → IsTried g goal best start bs
    tried_below [] f more = subst (λ (c : ℕ). CostsMore g goal best start c) f.1 (subst (λ (v : ℕ). CostsMore g goal best v stop.cost) f.0 more)
    tried_below (p ∷ bs) f more = λ k l. elim (cases_lt (k + 1) p.next_edge) [
      | inl low ↦ f.dear k low
      | inr high ↦
          (let e : k ≡ p.next_edge - 1 = omega (arith, high, l) in
          let at : get_or (g.ends p.place) k 0 ≡ stop.place = ap (λ (i : ℕ). get_or (g.ends p.place) i 0) e ∙ f.end in
          let here : CostsMore g goal best stop.place (p.cost + g.cost stop.place) = subst (λ (c : ℕ). CostsMore g goal best stop.place c) f.sum more in
          subst (λ (v : ℕ). CostsMore g goal best v (p.cost + g.cost v)) (sym at) here)
    ]

    -- The stop is left for good.
    pub goes_back : AreUnfit g goal best costs stop stop.next_edge (length (g.ends stop.place)) → IsOnWay g span goal best start costs below
    goes_back unfit =
        let more = exhausted unfit in
        record {
          trail = w.trail.1.1;
          tried = tried_below below w.trail.1.0 more;
          walking = record {
            room = w.walking.room;
            least = w.walking.least;
            done = λ node b small. elim (w.walking.done node b small) [
              | inl i ↦ elim i [
                | inl e ↦ inr (subst (λ (v : ℕ). CostsMore g goal best v (get_or costs node 0)) e.0 (subst (λ (c : ℕ). CostsMore g goal best stop.place c) e.1 more))
                | inr j ↦ inl j
              ]
              | inr m ↦ inr m
            ];
          };
        }

    -- ---- a step

    module _ (step : Step) (next : IsNext g goal best costs stop step) where
      contained : Contains (g.ends stop.place) step.place
      contained = subst (λ (x : ℕ). Contains (g.ends stop.place) x) next.end (Contains-get_or (g.ends stop.place) step.edge 0 next.within)

      pub step_within : step.place < g.count
      step_within = end_within g law stop.place step.place w.trail.0.within contained

      step_least : CostsAtLeast g goal best step.place step.cost
      step_least = subst (λ (c : ℕ). CostsAtLeast g goal best step.place c) (sym next.fit.sum) (least_on g goal best stop.place stop.cost step.place contained w.trail.0.least)

      step_on : IsStepOn g goal best (after_step stop step) step.place step.cost
      step_on = record {
        some = omega arith;
        within = omega (arith, next.within);
        end = ap (λ (i : ℕ). get_or (g.ends stop.place) i 0) (omega arith) ∙ next.end;
        order = λ k l m. omega (arith, next.order k l m);
        dear = λ k l. dear_until step.edge (omega (arith, next.within)) next.unfit k (omega (arith, l));
        sum = next.fit.sum;
      }

      -- The stop is put back, and the end of its edge is entered.
      pub goes_on : step.place ≢ goal → IsOnWay g span goal best start (set costs step.place step.cost) (stop_at step.place step.cost ∷ after_step stop step ∷ below)
      goes_on other =
          let room : step.place < length costs = omega (arith, step_within, w.walking.room) in
          record {
            trail = (record { within = step_within; other = other; cheap = next.fit.cheap; least = step_least }, (step_on, (w.trail.0, w.trail.1)));
            tried = λ k l. absurd (omega (arith, l));
            walking = record {
              room = omega (arith, w.walking.room, length-set costs step.place step.cost);
              least = λ node b small. elim (cost_cases costs step.place node step.cost room) [
                | inl s ↦ subst (λ (c : ℕ). CostsAtLeast g goal best node c) (sym s.1) (subst (λ (v : ℕ). CostsAtLeast g goal best v step.cost) (sym s.0) step_least)
                | inr o ↦ subst (λ (c : ℕ). CostsAtLeast g goal best node c) (sym o.1) (w.walking.least node b (omega (arith, small, o.1)))
              ];
              done = λ node b small. elim (cost_cases costs step.place node step.cost room) [
                | inl s ↦ inl (inl (sym s.0, sym s.1))
                | inr o ↦ subst (λ (c : ℕ). IsStop (stop_at step.place step.cost ∷ after_step stop step ∷ below) node c ⊎ CostsMore g goal best node c) (sym o.1)
                    (elim (w.walking.done node b (omega (arith, small, o.1))) [ inl i ↦ inl (inr i) | inr m ↦ inr m ])
              ];
            };
          }

      -- ---- at the goal

      no_further : (rest : List ℕ) → Leads g goal goal rest → sum_by g.cost rest ≡ 0 → goal < g.count → slice_cmp nat_cmp rest [] ≢ Less
      no_further [] leads none b = λ e. cc
      no_further (x ∷ rest) leads none b = absurd (omega (arith, none, sum_by-cons g.cost x rest, law.cost_from x (end_within g law goal x b leads.0)))

      pub at_goal : step.place ≡ goal → step.cost ≡ best
      at_goal e =
          let least : CostsAtLeast g goal best goal step.cost = subst (λ (v : ℕ). CostsAtLeast g goal best v step.cost) e step_least in
          omega (arith, least [] refl, next.fit.cheap)

  -- ---- the path

  -- If the way from the node is the least one, so is the path.
  arrives : (stops : List Stop) (node cost : ℕ) (rest : List ℕ) → IsTrail g goal best start stops → Follows g goal best start node cost stops → Leads g goal node rest → cost + sum_by g.cost rest ≡ best
      → ((other : List ℕ) → Leads g goal node other → cost + sum_by g.cost other ≡ best → slice_cmp nat_cmp other rest ≢ Less)
      → IsLeastFrom g goal best start (onto stops (node ∷ rest))
  arrives [] node cost rest t f leads sum least = record {
    is_path = (subst (λ (x : ℕ). Contains (start ∷ []) x) (sym f.0) (Contains-first start []), leads);
    cost = omega (arith, sum, f.1);
    least = first;
  }
    where
      first : (other : List ℕ) → IsPath g (start ∷ []) goal other → cost_of g other ≡ best → slice_cmp nat_cmp other (node ∷ rest) ≢ Less
      first [] p e = absurd p
      first (x ∷ xs) p e =
          let same : x ≡ node = only_contained start x p.0 ∙ sym f.0 in
          not_less_then x node (slice_cmp nat_cmp xs rest) (omega (arith, same))
          (λ q. least xs (subst (λ (v : ℕ). Leads g goal v xs) q p.1) (omega (arith, e, f.1)))
  arrives (stop ∷ below) node cost rest t f leads sum least =
      let c : Contains (g.ends stop.place) node = subst (λ (x : ℕ). Contains (g.ends stop.place) x) f.end (Contains-get_or (g.ends stop.place) (stop.next_edge - 1) 0 (omega (arith, f.some, f.within))) in
      arrives below stop.place stop.cost (node ∷ rest) t.1.1 t.1.0 (c, leads) (omega (arith, sum, f.sum, sum_by-cons g.cost node rest)) then
    where
      then : (other : List ℕ) → Leads g goal stop.place other → stop.cost + sum_by g.cost other ≡ best → slice_cmp nat_cmp other (node ∷ rest) ≢ Less
      then [] l e = absurd (t.0.other l)
      then (x ∷ xs) l e = elim (cases_lt x node) [
        | inl less ↦
            (let at = at_index (g.ends stop.place) x l.0 in
            let k : at.0 + 1 < stop.next_edge = f.order at.0 at.1 (omega (arith, at.2, less)) in
            let dear : CostsMore g goal best x (stop.cost + g.cost x) = subst (λ (v : ℕ). CostsMore g goal best v (stop.cost + g.cost v)) at.2 (f.dear at.0 k) in
            absurd (omega (arith, dear xs l.1, e, sum_by-cons g.cost x xs)))
        | inr le ↦ not_less_then x node (slice_cmp nat_cmp xs rest) le
            (λ q. least xs (subst (λ (v : ℕ). Leads g goal v xs) q l.1) (omega (arith, e, f.sum, sum_by-cons g.cost x xs, ap g.cost q)))
      ]

  pub completes : (costs : List ℕ) (stop : Stop) (below : List Stop) (w : IsOnWay g span goal best start costs (stop ∷ below)) (step : Step) (next : IsNext g goal best costs stop step)
      → step.place ≡ goal → IsLeastFrom g goal best start (onto (stop ∷ below) (goal ∷ []))
  completes costs stop below w step next e =
      let sum : step.cost ≡ best = at_goal costs stop below w step next e in
      let b : goal < g.count = subst (λ (v : ℕ). v < g.count) e (step_within costs stop below w step next) in
      let on : IsStepOn g goal best (after_step stop step) goal step.cost = subst (λ (v : ℕ). IsStepOn g goal best (after_step stop step) v step.cost) e (step_on costs stop below w step next) in
      arrives (after_step stop step ∷ below) goal step.cost [] (w.trail.0, w.trail.1) on refl (omega (arith, sum))
      (λ other leads total. no_further costs stop below w step next other leads (omega (arith, total, sum)) b)

  -- the path over the stops, after the last one was put back
  pub completed : (costs : List ℕ) (stop : Stop) (below items : List Stop) (step : Step) → items ≡ below ++ after_step stop step ∷ [] → IsOnWay g span goal best start costs (stop ∷ reverse below) → IsNext g goal best costs stop step
      → step.place ≡ goal → IsLeastFrom g goal best start (places_in items ++ goal ∷ [])
  completed costs stop below items step is w next e =
      let top : onto (stop ∷ reverse below) (goal ∷ []) ≡ onto (reverse (below ++ after_step stop step ∷ [])) (goal ∷ []) = ap (λ (xs : List Stop). onto xs (goal ∷ [])) (sym (reverse-push (after_step stop step) below)) in
      let path : onto (stop ∷ reverse below) (goal ∷ []) ≡ places_in (below ++ after_step stop step ∷ []) ++ goal ∷ [] = top ∙ path_of (below ++ after_step stop step ∷ []) (goal ∷ []) in
      rw is (subst (λ (p : List ℕ). IsLeastFrom g goal best start p) path (completes costs stop (reverse below) w step next e))

-- ---- the current stop, and those below it

-- the stops from the current one on
abbrev pub stack_of : Option Stop → List Stop → List Stop
stack_of None items = []
stack_of (Some stop) items = stop ∷ reverse items

abbrev pub count_of : Option Stop → ℕ
count_of None = 0
count_of (Some stop) = 1

-- The last stop is the current one.
pub taken_back : (items below : List Stop) (last : Option Stop) → items ≡ below ++ option_to_list last → IfNone last (items ≡ []) → reverse items ≡ stack_of last below
taken_back items below last is none = grind (arith, reverse-push)

-- ---- the first stop

pub begins : {g : Graph} {span goal best start : ℕ} (costs : List ℕ) → 1 ≤ best → start < g.count → CostsAtLeast g goal best start 0 → IsBetween g span goal best costs
    → IsOnWay g span goal best start (set costs start 0) (stop_at start 0 ∷ [])
begins {g} {span} {goal} {best} {start} costs some b least w =
    let room : start < length costs = omega (arith, b, w.room) in
    let other : start ≢ goal = λ e. absurd (omega (arith, some, least [] e)) in
    record {
      trail = (record { within = b; other = other; cheap = omega arith; least = least }, ((refl, refl), tt));
      tried = λ k l. absurd (omega (arith, l));
      walking = record {
        room = omega (arith, w.room, length-set costs start 0);
        least = λ node c small. elim (cost_cases costs start node 0 room) [
          | inl s ↦ subst (λ (d : ℕ). CostsAtLeast g goal best node d) (sym s.1) (subst (λ (v : ℕ). CostsAtLeast g goal best v 0) (sym s.0) least)
          | inr o ↦ subst (λ (d : ℕ). CostsAtLeast g goal best node d) (sym o.1) (w.least node c (omega (arith, small, o.1)))
        ];
        done = λ node c small. elim (cost_cases costs start node 0 room) [
          | inl s ↦ inl (inl (sym s.0, sym s.1))
          | inr o ↦ subst (λ (d : ℕ). IsStop (stop_at start 0 ∷ []) node d ⊎ CostsMore g goal best node d) (sym o.1)
              (elim (w.done node c (omega (arith, small, o.1))) [ inl i ↦ absurd i | inr m ↦ inr m ])
        ];
      };
    }
