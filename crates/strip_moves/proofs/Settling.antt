-- Strips that are moved to the left one after another.
use Rattle.strip_moves.proofs.Prelude.{◌≡◌, ◌≢◌, ◌∙◌, ℕ, zero, suc, ◌+◌, ◌<◌, ◌≤◌, eqb, Bool, false, List, [], ◌∷◌, Some, IsSome, Result, Ok, Err, All, length, get_or, if◌then◌else◌, refl, sym, ap, subst, arith, inl, inr, AllPairs, is_ok, cases_lt, cases_order, Decides-eqb, nat_tests, ext_get_or, get_or-map, get_or_default, length-map, laid_moved, moved_apart, parted_moved, AreApart, IsLaidOut, IsParted, Moves, Plan, moved_strip, strip_of, with_moved, NoRoom, PlacedStrip, AreLeftmost, CannotMove, Blocks, IsFull, IsSettled, Sits}

-- each strip is found by its id
found_here : (xs : List PlacedStrip) → AllPairs (λ s t. s.id ≢ t.id) xs → (i : ℕ) (d : PlacedStrip) → i < length xs → strip_of xs (get_or xs i d).id ≡ Some (get_or xs i d)
found_here [] distinct i d lt = absurd (omega (arith, lt))
found_here (x ∷ xs) distinct zero d lt = ap (λ (b : Bool). if b then Some x else strip_of xs x.id) ((Decides-eqb x.id x.id).1 refl)
found_here (x ∷ xs) distinct (suc i) d lt =
    let within : i < length xs = omega (arith, lt) in
    let differ : x.id ≢ (get_or xs i d).id = distinct 0 (suc i) d (omega arith) lt in
    let test : eqb x.id (get_or xs i d).id ≡ false = grind (arith, nat_tests) in
    let rest = found_here xs (λ a b e less more. distinct (suc a) (suc b) e (omega (arith, less)) (omega (arith, more))) i d within in
    ap (λ (b : Bool). if b then Some x else strip_of xs (get_or xs i d).id) test ∙ rest

-- strips with one id are one strip
same_place : (xs : List PlacedStrip) → AllPairs (λ s t. s.id ≢ t.id) xs → (i j : ℕ) (d : PlacedStrip) → i < length xs → j < length xs → (get_or xs i d).id ≡ (get_or xs j d).id → i ≡ j
same_place xs distinct i j d first second same = elim (cases_order i j) [
  | inl e ↦ e
  | inr unlike ↦ elim unlike [
    | inl less ↦ absurd (distinct i j d less second same)
    | inr more ↦ absurd (distinct j i d more first (sym same))
  ]
]

turned : (s t : PlacedStrip) → AreApart s t → AreApart t s
turned s t (inl before) = inr before
turned s t (inr after) = inl after

-- no offset below a full front is accepted
pub refused : (plan : Plan) (front i : ℕ) (s : PlacedStrip) (offset : ℕ) → IsLaidOut plan → i < length plan.strips → ((d : PlacedStrip) → get_or plan.strips i d ≡ s) → IsFull plan.strips front → front ≤ s.offset → offset < front →
    IsParted (with_moved plan s.id offset) → ⊥
refused plan front i s offset laid within at full before less parted =
    let found : strip_of plan.strips s.id ≡ Some s = subst (λ (t : PlacedStrip). strip_of plan.strips t.id ≡ Some t) (at s) (found_here plan.strips laid.distinct i s within) in
    let b = full offset s.width less in
    elim (moved_apart plan s.id offset s laid found parted b.place s b.within) [
      | inl same ↦ itself b (same_place plan.strips laid.distinct b.place i s b.within within (same ∙ ap (λ (t : PlacedStrip). t.id) (sym (at s))))
      | inr apart ↦ near b (subst (λ (t : PlacedStrip). AreApart t (record s { offset = offset })) (b.at s) apart)
    ]
  where
    itself : (b : Blocks plan.strips front offset s.width) → b.place ≡ i → ⊥
    itself b same =
        let is : b.strip ≡ s = sym (b.at s) ∙ (ap (λ n. get_or plan.strips n s) same ∙ at s) in
        let ends : s.offset + s.width + 1 ≤ front = subst (λ (t : PlacedStrip). t.offset + t.width + 1 ≤ front) is b.before in
        omega (arith, ends, before)

    near : (b : Blocks plan.strips front offset s.width) → AreApart b.strip (record s { offset = offset }) → ⊥
    near b (inl left) = omega (arith, left, b.near.0)
    near b (inr right) = omega (arith, right, b.near.1)

moved_yes : (id offset : ℕ) (s : PlacedStrip) → s.id ≡ id → moved_strip id offset s ≡ record s { offset = offset }
moved_yes id offset s e = ap (λ (b : Bool). if b then record s { offset = offset } else s) ((Decides-eqb s.id id).1 e)

moved_not : (id offset : ℕ) (s : PlacedStrip) → s.id ≢ id → moved_strip id offset s ≡ s
moved_not id offset s differ =
    let test : eqb s.id id ≡ false = grind (arith, nat_tests) in
    ap (λ (b : Bool). if b then record s { offset = offset } else s) test

-- the strip at the next offset
module _ (old : List PlacedStrip) (plan : Plan) (next : ℕ) (apart : AllPairs AreApart old) (settled : IsSettled old plan next)
    (i : ℕ) (s : PlacedStrip) (within : i < length old) (at : (d : PlacedStrip) → get_or old i d ≡ s) (here : s.offset ≡ next) where
  abbrev front : ℕ
  front = settled.front

  abbrev t : PlacedStrip
  t = get_or plan.strips i s

  there : i < length plan.strips
  there = let count = settled.count in omega (arith, within, count)

  pub at_plan : (d : PlacedStrip) → get_or plan.strips i d ≡ t
  at_plan d = get_or_default plan.strips i d s there

  sit : Sits plan.strips next front s t
  sit = subst (λ (o : PlacedStrip). Sits plan.strips next front o t) (at s) (settled.sits i s within)

  now : (t.offset ≡ s.offset) × (front ≤ s.offset)
  now = sit.later (omega (arith, here))

  pub low : front ≤ next
  low = let n = now.1 in omega (arith, n, here)

  t_next : t.offset ≡ next
  t_next = now.0 ∙ here

  pub id_is : t.id ≡ s.id
  id_is = sit.id

  pub found : strip_of plan.strips t.id ≡ Some t
  found = found_here plan.strips settled.laid.distinct i s there

  -- the strips that were at the next offset or after it are right of this one
  pair : (j : ℕ) (d : PlacedStrip) → j < length old → j ≢ i → AreApart (get_or old j d) s
  pair j d lt unlike = elim (cases_order j i) [
    | inl e ↦ absurd (unlike e)
    | inr order ↦ elim order [
      | inl less ↦ subst (λ (o : PlacedStrip). AreApart (get_or old j d) o) (at d) (apart j i d less within)
      | inr more ↦ turned s (get_or old j d) (subst (λ (o : PlacedStrip). AreApart o (get_or old j d)) (at d) (apart i j d more lt))
    ]
  ]

  right_of : (o : PlacedStrip) → AreApart o s → next ≤ o.offset → next + s.width + 1 ≤ o.offset
  right_of o (inl left) later = absurd (omega (arith, left, later, here))
  right_of o (inr right) later = omega (arith, right, later, here)

  right : (j : ℕ) (d : PlacedStrip) → j < length old → j ≢ i → next ≤ (get_or old j d).offset → next + s.width + 1 ≤ (get_or old j d).offset
  right j d lt unlike later = right_of (get_or old j d) (pair j d lt unlike) later

  same_width : t.width ≡ s.width
  same_width = sit.width

  others : (j : ℕ) (d : PlacedStrip) → j < length plan.strips → j ≢ i → AreApart (get_or plan.strips j d) (record t { offset = front })
  others j d lt unlike =
      let count = settled.count in
      let small : j < length old = omega (arith, lt, count) in
      let at_j = settled.sits j d small in
      elim (cases_lt (get_or old j d).offset next) [
        | inl done ↦ inl (at_j.done done).0
        | inr later ↦
            let r = right j d small unlike later in
            let same = (at_j.later later).0 in
            inr (omega (arith, r, same, low, same_width))
      ]

  -- it goes to the front
  pub accepted : IsParted (with_moved plan t.id front)
  accepted =
      let ends : t.offset + t.width ≤ plan.columns = settled.laid.parted.inside i s there in
      parted_moved plan t.id front t settled.laid found (omega (arith, ends, low, t_next))
      (λ j d lt. elim (cases_order j i) [
        | inl e ↦ inl (ap (λ (o : PlacedStrip). o.id) (ap (λ n. get_or plan.strips n d) e ∙ at_plan d))
        | inr order ↦ inr (others j d lt (λ e. elim order [ inl less ↦ omega (arith, less, e) | inr more ↦ omega (arith, more, e) ]))
      ])

  abbrev new : Plan
  new = with_moved plan t.id front

  at_new : (j : ℕ) (d : PlacedStrip) → j < length plan.strips → get_or new.strips j d ≡ moved_strip t.id front (get_or plan.strips j d)
  at_new j d lt = get_or-map (moved_strip t.id front) plan.strips j d d lt

  at_i : (d : PlacedStrip) → get_or new.strips i d ≡ record t { offset = front }
  at_i d = at_new i d there ∙ (ap (moved_strip t.id front) (at_plan d) ∙ moved_yes t.id front t refl)

  at_other : (j : ℕ) (d : PlacedStrip) → j < length plan.strips → j ≢ i → get_or new.strips j d ≡ get_or plan.strips j d
  at_other j d lt unlike =
      at_new j d lt ∙ moved_not t.id front (get_or plan.strips j d) (λ same. unlike (same_place plan.strips settled.laid.distinct j i d lt there (same ∙ ap (λ (o : PlacedStrip). o.id) (sym (at_plan d)))))

  long : length new.strips ≡ length plan.strips
  long = length-map plan.strips (moved_strip t.id front)

  kept_full : (x : ℕ) → x ≤ next → IsFull plan.strips x → IsFull new.strips x
  kept_full x small full c w less =
      let b = full c w less in
      let unlike : b.place ≢ i = λ same. (
      let is : b.strip ≡ t = sym (b.at s) ∙ ap (λ n. get_or plan.strips n s) same in
      let ends : t.offset + t.width + 1 ≤ x = subst (λ (o : PlacedStrip). o.offset + o.width + 1 ≤ x) is b.before in
      omega (arith, ends, small, t_next)) in
      record {
        place = b.place;
        strip = b.strip;
        within = (let w = b.within in omega (arith, w, long));
        at = λ d. at_other b.place d b.within unlike ∙ b.at d;
        before = b.before;
        near = b.near;
      }

  abbrev front' : ℕ
  front' = front + t.width + 1

  full_new : IsFull new.strips front'
  full_new c w less = elim (cases_lt c front) [
    | inl before ↦
        let b = kept_full front low settled.full c w before in
        record { place = b.place; strip = b.strip; within = b.within; at = b.at; before = (let ends = b.before in omega (arith, ends)); near = b.near }
    | inr after ↦ record {
      place = i;
      strip = record t { offset = front };
      within = omega (arith, there, long);
      at = at_i;
      before = omega arith;
      near = (less, omega (arith, after));
    }
  ]

  sits_i : Sits new.strips (next + 1) front' s (record t { offset = front })
  sits_i = record {
    id = sit.id;
    width = sit.width;
    later = λ l. absurd (omega (arith, l, here));
    done = λ l. (omega arith, kept_full front low settled.full);
  }

  sits_other : (j : ℕ) (d : PlacedStrip) → j < length old → j ≢ i → Sits new.strips (next + 1) front' (get_or old j d) (get_or plan.strips j d)
  sits_other j d lt unlike =
      let at_j = settled.sits j d lt in
      let o = get_or old j d in
      record {
        id = at_j.id;
        width = at_j.width;
        later = λ l.
            (let more : next ≤ o.offset = omega (arith, l) in
            let r = right j d lt unlike more in
            ((at_j.later more).0, omega (arith, r, low, same_width)));
        done = λ l. elim (cases_lt o.offset next) [
          | inl before ↦
              let was = at_j.done before in
              let ends = was.0 in
              (omega (arith, ends), kept_full (get_or plan.strips j d).offset (omega (arith, ends, low)) was.1)
          | inr more ↦ absurd (let r = right j d lt unlike more in omega (arith, r, l))
        ];
      }

  pub settled_moved : IsSettled old new (next + 1)
  settled_moved = record {
    laid = laid_moved plan t.id front t settled.laid found accepted;
    count = long ∙ settled.count;
    front = front';
    full = full_new;
    sits = λ j d lt.
        (let count = settled.count in
        let small : j < length plan.strips = omega (arith, lt, count) in
        elim (cases_order j i) [
          | inl e ↦ subst (λ n. Sits new.strips (next + 1) front' (get_or old n d) (get_or new.strips n d)) (sym e)
              (subst (λ (o : PlacedStrip). Sits new.strips (next + 1) front' o (get_or new.strips i d)) (sym (at d)) (subst (Sits new.strips (next + 1) front' s) (sym (at_i d)) sits_i))
          | inr order ↦
              let unlike : j ≢ i = λ e. elim order [ inl less ↦ omega (arith, less, e) | inr more ↦ omega (arith, more, e) ] in
              subst (Sits new.strips (next + 1) front' (get_or old j d)) (sym (at_other j d small unlike)) (sits_other j d lt unlike)
        ]);
  }

  -- the least offset that is accepted is the front
  pub least : (offset : ℕ) → IsParted (with_moved plan t.id offset) → CannotMove plan t.id offset → offset ≡ front
  least offset parted cannot = elim (cases_order offset front) [
    | inl e ↦ e
    | inr order ↦ elim order [
      | inl less ↦ absurd (refused plan front i t offset settled.laid there at_plan settled.full (let n = now.1 in let m = now.0 in omega (arith, n, m)) less parted)
      | inr more ↦ absurd (cannot front more accepted)
    ]
  ]

  -- if no lower offset is accepted, it is at the front
  at_front : CannotMove plan t.id next → front ≡ next
  at_front cannot = elim (cases_lt front next) [
    | inl less ↦ absurd (cannot front less accepted)
    | inr more ↦ omega (arith, more, low)
  ]

  unmoved : front ≡ next → new ≡ plan
  unmoved e =
      let stays : record t { offset = front } ≡ t = ap (λ (o : ℕ). record t { offset = o }) (e ∙ sym t_next) in
      ap (λ (xs : List PlacedStrip). record plan { strips = xs })
      (ext_get_or s new.strips plan.strips long
      (λ j lt.
      (let small : j < length plan.strips = omega (arith, lt, long) in
      elim (cases_order j i) [
        | inl same ↦ subst (λ n. get_or new.strips n s ≡ get_or plan.strips n s) (sym same) (at_i s ∙ stays)
        | inr order ↦ at_other j s small (λ same. elim order [ inl less ↦ omega (arith, less, same) | inr more ↦ omega (arith, more, same) ])
      ])))

  -- the strip is among those of the plan
  pub known : IsSome (strip_of plan.strips s.id)
  known = subst (λ n. IsSome (strip_of plan.strips n)) id_is (subst IsSome (sym found) refl)

  same_id : (P : ℕ → Type 0) → P s.id → P t.id
  same_id P h = subst P (sym id_is) h

  pub settled_same : (after : Plan) → after ≡ plan → CannotMove plan s.id next → IsSettled old after (next + 1)
  settled_same after same cannot =
      let e = at_front (same_id (λ n. CannotMove plan n next) cannot) in
      subst (λ (p : Plan). IsSettled old p (next + 1)) (unmoved e ∙ sym same) settled_moved

  pub settled_after : (after : Plan) (offset : ℕ) → IsParted (with_moved plan s.id offset) → after ≡ with_moved plan s.id offset → CannotMove plan s.id offset → IsSettled old after (next + 1)
  settled_after after offset parted is cannot =
      let e = least offset (same_id (λ n. IsParted (with_moved plan n offset)) parted) (same_id (λ n. CannotMove plan n offset) cannot) in
      subst (λ (p : Plan). IsSettled old p (next + 1)) (ap (λ n. with_moved plan n front) id_is ∙ ap (λ o. with_moved plan s.id o) (sym e) ∙ sym is) settled_moved

-- all strips are moved
pub all_leftmost : (old : List PlacedStrip) (plan : Plan) (next : ℕ) → All (λ s. s.offset < next) old → IsSettled old plan next → AreLeftmost plan
all_leftmost old plan next before settled i d lt offset less =
    let count = settled.count in
    let small : i < length old = omega (arith, lt, count) in
    let full = ((settled.sits i d small).done (before i d small)).1 in
    refused plan (get_or plan.strips i d).offset i (get_or plan.strips i d) offset settled.laid lt (λ e. get_or_default plan.strips i e d lt) full (omega arith) less

-- a move that is refused, after others that are
pub goes_on : (start plan after : Plan) (id offset : ℕ) (result : Result (Unit {0}) NoRoom) → (plan ≡ start) × CannotMove start id offset → Moves plan id offset result after → is_ok result ≡ false → (after ≡ start) × CannotMove start id (offset + 1)
goes_on start plan after id offset (Ok u) so moves is = absurd cc
goes_on start plan after id offset (Err refusal) so moves is = (
  moves.1 ∙ so.0,
  λ lower less parted. elim (cases_lt lower offset) [
    | inl before ↦ so.1 lower before parted
    | inr there ↦
        let same : lower ≡ offset = omega (arith, less, there) in
        moves.0 (subst (λ (p : Plan). IsParted (with_moved p id offset)) (sym so.0) (subst (λ n. IsParted (with_moved start id n)) same parted))
  ],
)
