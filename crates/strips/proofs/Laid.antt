-- A layout stays laid out when a strip is removed, added or moved.
use Rattle.strips.proofs.Prelude.{◌≡◌, ◌≢◌, ℕ, ◌+◌, ◌<◌, ◌≤◌, List, [], ◌∷◌, ◌++◌, length, get_or, filter, Bool, true, false, not, eqb, Option, Some, None, arith, length-append, zero, suc, refl, ap, sym, subst, ◌∙◌, ◌⊎◌, inl, inr, if◌then◌else◌, option_map, All, get_or-append, get_or-append_seam, nat_tests, Decides-eqb, get_or-map, length-map, cases_lt, cases_order, All-filter, All-push, all_pairs_push, AllPairs-filter, PlacedStrip, MAX_STRIPS, Plan, IsParted, IsLaidOut, AreApart, FitsAt, strip_of, moved_strip, offset_of, with_moved, strips_without, with_strip}

length_filter_le : (p : PlacedStrip → Bool) (xs : List PlacedStrip) → length (filter p xs) ≤ length xs
length_filter_le p [] = omega arith
length_filter_le p (x ∷ xs) = grind (arith, length_filter_le p xs)

-- without one of its strips, a layout is still laid out
pub IsLaidOut-without : (plan : Plan) (id : ℕ) → IsLaidOut plan → IsLaidOut (record plan { strips = strips_without plan.strips id })
IsLaidOut-without plan id laid =
    let others : PlacedStrip → Bool = λ s. not (eqb s.id id) in
    record {
      few = omega (arith, length_filter_le others plan.strips, laid.few);
      wide = All-filter others (λ s. 0 < s.width) plan.strips laid.wide;
      parted = record {
        inside = All-filter others (λ s. s.offset + s.width ≤ plan.columns) plan.strips laid.parted.inside;
        apart = AllPairs-filter AreApart others plan.strips laid.parted.apart;
      };
      distinct = AllPairs-filter (λ s t. s.id ≢ t.id) others plan.strips laid.distinct;
    }

-- no strip has that id
absent : (strips : List PlacedStrip) (id : ℕ) → offset_of strips id ≡ None → (k : ℕ) (d : PlacedStrip) → k < length strips → (get_or strips k d).id ≢ id
absent [] id none k d lt = absurd (omega arith)
absent (s ∷ strips) id none zero d lt = grind (arith, nat_tests)
absent (s ∷ strips) id none (suc k) d lt = let rest : offset_of strips id ≡ None = grind (arith, nat_tests) in absent strips id rest k d (omega arith)

-- with a strip that is apart from all others, the strips are still separated
pub IsParted-with : (plan : Plan) (strip : PlacedStrip) → IsParted plan → strip.offset + strip.width ≤ plan.columns → All (λ s. AreApart s strip) plan.strips → IsParted (with_strip plan strip)
IsParted-with plan strip parted inside apart = search (All-push, all_pairs_push, arith)

-- with a strip that is too near to another, they are not
pub IsParted-with-inside : (plan : Plan) (strip : PlacedStrip) → IsParted (with_strip plan strip) → strip.offset + strip.width ≤ plan.columns
IsParted-with-inside plan strip parted = grind (arith, length-append plan.strips (strip ∷ []), get_or-append_seam plan.strips strip [] strip)

pub IsParted-with-apart : (plan : Plan) (strip : PlacedStrip) → IsParted (with_strip plan strip) → All (λ s. AreApart s strip) plan.strips
IsParted-with-apart plan strip parted = λ k d lt.
    let more : length plan.strips < length (plan.strips ++ strip ∷ []) = omega (arith, length-append plan.strips (strip ∷ [])) in
    let here = parted.apart k (length plan.strips) d lt more in
    rw (get_or-append plan.strips (strip ∷ []) d k lt, get_or-append_seam plan.strips strip [] d) at here

-- with a strip that fits and has a new id the strips are laid out
pub IsLaidOut-with : (plan : Plan) (strip : PlacedStrip) → IsLaidOut plan → length plan.strips < MAX_STRIPS → FitsAt plan strip.width strip.offset → offset_of plan.strips strip.id ≡ None → IsLaidOut (with_strip plan strip)
IsLaidOut-with plan strip laid few fits new =
    let nameless : PlacedStrip = record { id = 0; offset = strip.offset; width = strip.width } in
    record {
      few = omega (arith, length-append plan.strips (strip ∷ []));
      wide = All-push (λ s. 0 < s.width) plan.strips strip laid.wide fits.wide;
      parted = IsParted-with plan strip laid.parted (IsParted-with-inside plan nameless fits.parted) (IsParted-with-apart plan nameless fits.parted);
      distinct = all_pairs_push (λ s t. s.id ≢ t.id) plan.strips strip laid.distinct (absent plan.strips strip.id new);
    }

-- lookup by id, after a strip is removed or added
pub strip_of-without : (strips : List PlacedStrip) (id other : ℕ) → strip_of (strips_without strips id) other ≡ (if eqb other id then None else strip_of strips other)
strip_of-without [] id other = grind (arith, nat_tests)
strip_of-without (s ∷ strips) id other = grind (arith, nat_tests, strip_of-without strips id other)

pub strip_of-push : (strips : List PlacedStrip) (strip : PlacedStrip) (other : ℕ) → strip_of strips strip.id ≡ None → strip_of (strips ++ strip ∷ []) other ≡ (if eqb other strip.id then Some strip else strip_of strips other)
strip_of-push [] strip other new = grind (arith, nat_tests)
strip_of-push (s ∷ strips) strip other new = let rest : strip_of strips strip.id ≡ None = grind (arith, nat_tests) in grind (arith, nat_tests, strip_of-push strips strip other rest)

-- the index at which a strip is found in the list
record FoundAt (strips : List PlacedStrip) (id : ℕ) (s : PlacedStrip) (i : ℕ) : Type 0 where
  within : i < length strips
  at : (d : PlacedStrip) → get_or strips i d ≡ s
  its_id : s.id ≡ id

found_at : (strips : List PlacedStrip) (id : ℕ) (s : PlacedStrip) → strip_of strips id ≡ Some s → (i : ℕ) × FoundAt strips id s i
found_at [] id s is = cc
found_at (x ∷ strips) id s is =
    elim (eqb x.id id) as (λ b. eqb x.id id ≡ b → (if b then Some x else strip_of strips id) ≡ Some s → (i : ℕ) × FoundAt (x ∷ strips) id s i) [
      | true ↦ λ e same. let is_s : x ≡ s = cc in (0, record { within = omega arith; at = λ d. is_s; its_id = ap (λ (y : PlacedStrip). y.id) (sym is_s) ∙ (Decides-eqb x.id id).0 e })
      | false ↦ λ e rest. let got : (i : ℕ) × FoundAt strips id s i = found_at strips id s rest in (suc got.0, record { within = (let w : got.0 < length strips = got.1.within in omega arith); at = got.1.at; its_id = got.1.its_id })
    ] refl is

AreApart-turned : (s t : PlacedStrip) → AreApart s t → AreApart t s
AreApart-turned s t h1 = grind arith

-- the strips of two different ids are apart
pub apart_of : (plan : Plan) (j k : ℕ) (s t : PlacedStrip) → IsParted plan → strip_of plan.strips j ≡ Some s → strip_of plan.strips k ≡ Some t → j ≢ k → AreApart s t
apart_of plan j k s t parted is_s is_t differ =
    let a : (i : ℕ) × FoundAt plan.strips j s i = found_at plan.strips j s is_s in
    let b : (i : ℕ) × FoundAt plan.strips k t i = found_at plan.strips k t is_t in
    by_order a.0 b.0 a.1 b.1 (cases_lt a.0 b.0)
  where
    by_order : (p q : ℕ) → FoundAt plan.strips j s p → FoundAt plan.strips k t q → (p < q) ⊎ (q ≤ p) → AreApart s t
    by_order p q a b (inl lt) = let w : q < length plan.strips = b.within in rw (a.at s, b.at s) at (parted.apart p q s lt w)
    by_order p q a b (inr le) = by_equal (eqb p q) refl
      where
        by_equal : (e : Bool) → eqb p q ≡ e → AreApart s t
        by_equal true e = let same : p ≡ q = (Decides-eqb p q).0 e in let st : s ≡ t = sym (a.at s) ∙ (ap (λ n. get_or plan.strips n s) same ∙ b.at s) in absurd (differ (sym a.its_id ∙ (ap (λ (y : PlacedStrip). y.id) st ∙ b.its_id)))
        by_equal false e = let lt : q < p = grind (arith, nat_tests) in let w : p < length plan.strips = a.within in AreApart-turned t s (rw (b.at s, a.at s) at (parted.apart q p s lt w))

-- every strip with the id is the one that is found
only_one : (plan : Plan) (id : ℕ) (s : PlacedStrip) → IsLaidOut plan → strip_of plan.strips id ≡ Some s → (k : ℕ) (d : PlacedStrip) → k < length plan.strips → (get_or plan.strips k d).id ≡ id → get_or plan.strips k d ≡ s
only_one plan id s laid is k d lt same = search (found_at, arith)

abbrev at_offset : PlacedStrip → ℕ → PlacedStrip
at_offset s offset = record s { offset = offset }

moved_yes : (id offset : ℕ) (s : PlacedStrip) → s.id ≡ id → moved_strip id offset s ≡ at_offset s offset
moved_yes id offset s e = ap (λ (b : Bool). if b then at_offset s offset else s) ((Decides-eqb s.id id).1 e)

moved_not : (id offset : ℕ) (s : PlacedStrip) → eqb s.id id ≡ false → moved_strip id offset s ≡ s
moved_not id offset s e = ap (λ (b : Bool). if b then at_offset s offset else s) e

-- all strips with another id are apart from the given one
abbrev pub AreOthersApart : List PlacedStrip → ℕ → PlacedStrip → Type 0
AreOthersApart strips id strip = All (λ s. (s.id ≡ id) ⊎ AreApart s strip) strips

module _ (plan : Plan) (id offset : ℕ) (s : PlacedStrip) (laid : IsLaidOut plan) (is : strip_of plan.strips id ≡ Some s) where
  at_moved : (k : ℕ) (d : PlacedStrip) → k < length plan.strips → get_or (with_moved plan id offset).strips k d ≡ moved_strip id offset (get_or plan.strips k d)
  at_moved k d lt = get_or-map (moved_strip id offset) plan.strips k d d lt

  long : length (with_moved plan id offset).strips ≡ length plan.strips
  long = length-map plan.strips (moved_strip id offset)

  -- after the move, a strip is either the moved one or an unchanged other one
  each : (k : ℕ) (d : PlacedStrip) → k < length plan.strips → ((get_or plan.strips k d).id ≡ id × (get_or (with_moved plan id offset).strips k d ≡ at_offset s offset)) ⊎ ((eqb (get_or plan.strips k d).id id ≡ false) × (get_or (with_moved plan id offset).strips k d ≡ get_or plan.strips k d))
  each k d lt = by (eqb (get_or plan.strips k d).id id) refl
    where
      by : (b : Bool) → eqb (get_or plan.strips k d).id id ≡ b → ((get_or plan.strips k d).id ≡ id × (get_or (with_moved plan id offset).strips k d ≡ at_offset s offset)) ⊎ ((eqb (get_or plan.strips k d).id id ≡ false) × (get_or (with_moved plan id offset).strips k d ≡ get_or plan.strips k d))
      by true e =
          let same : (get_or plan.strips k d).id ≡ id = (Decides-eqb (get_or plan.strips k d).id id).0 e in
          inl (same, at_moved k d lt ∙ (moved_yes id offset (get_or plan.strips k d) same ∙ ap (λ (y : PlacedStrip). at_offset y offset) (only_one plan id s laid is k d lt same)))
      by false e = inr (e, at_moved k d lt ∙ moved_not id offset (get_or plan.strips k d) e)

  not_itself : (t : PlacedStrip) → eqb t.id id ≡ false → (t.id ≡ id) ⊎ AreApart t (at_offset s offset) → AreApart t (at_offset s offset)
  not_itself t other (inl same) = absurd (let wrong = sym other ∙ (Decides-eqb t.id id).1 same in cc)
  not_itself t other (inr apart) = apart

  pub parted_moved : offset + s.width ≤ plan.columns → AreOthersApart plan.strips id (at_offset s offset) → IsParted (with_moved plan id offset)
  parted_moved inside apart = record {
    inside = λ k d lt.
        (let small : k < length plan.strips = omega (arith, lt, long) in
        elim (each k d small) [
          | inl that ↦ rw that.1 inside
          | inr other ↦ rw other.1 (laid.parted.inside k d small)
        ]);
    apart = λ i j d before lt.
        (let second : j < length plan.strips = omega (arith, lt, long) in
        let first : i < length plan.strips = omega (arith, before, second) in
        elim (each i d first) [
          | inl this ↦ elim (each j d second) [
            | inl that ↦ absurd (laid.distinct i j d before second (this.0 ∙ sym that.0))
            | inr other ↦ rw (this.1, other.1) (AreApart-turned (get_or plan.strips j d) (at_offset s offset) (not_itself (get_or plan.strips j d) other.0 (apart j d second)))
          ]
          | inr one ↦ elim (each j d second) [
            | inl that ↦ rw (one.1, that.1) (not_itself (get_or plan.strips i d) one.0 (apart i d first))
            | inr other ↦ rw (one.1, other.1) (laid.parted.apart i j d before second)
          ]
        ]);
  }

  module _ (parted : IsParted (with_moved plan id offset)) where
    here : (i : ℕ) × FoundAt plan.strips id s i
    here = found_at plan.strips id s is

    stands : (d : PlacedStrip) → get_or (with_moved plan id offset).strips here.0 d ≡ at_offset s offset
    stands d = at_moved here.0 d here.1.within ∙ (ap (moved_strip id offset) (here.1.at d) ∙ moved_yes id offset s here.1.its_id)

    pub moved_inside : offset + s.width ≤ plan.columns
    moved_inside = rw (stands s) at (parted.inside here.0 s (omega (arith, here.1.within, long)))

    pub moved_apart : AreOthersApart plan.strips id (at_offset s offset)
    moved_apart k d lt = elim (each k d lt) [
      | inl that ↦ inl that.0
      | inr other ↦ elim (cases_order k here.0) [
        | inl e ↦ inl (ap (λ (y : PlacedStrip). y.id) (ap (λ n. get_or plan.strips n d) e ∙ here.1.at d) ∙ here.1.its_id)
        | inr unlike ↦ elim unlike [
          | inl less ↦ inr (rw (other.1, stands d) at (parted.apart k here.0 d less (omega (arith, here.1.within, long))))
          | inr more ↦ inr (AreApart-turned (at_offset s offset) (get_or plan.strips k d) (rw (stands d, other.1) at (parted.apart here.0 k d more (omega (arith, lt, long)))))
        ]
      ]
    ]

  pub laid_moved : IsParted (with_moved plan id offset) → IsLaidOut (with_moved plan id offset)
  laid_moved parted = record {
    few = omega (arith, laid.few, long);
    wide = λ k d lt. (let small : k < length plan.strips = omega (arith, lt, long) in rw (at_moved k d small) (kept_width (get_or plan.strips k d) (laid.wide k d small)));
    parted = parted;
    distinct = λ i j d before lt same.
        (let second : j < length plan.strips = omega (arith, lt, long) in
        let first : i < length plan.strips = omega (arith, before, second) in
        laid.distinct i j d before second (sym (kept_id (get_or plan.strips i d)) ∙ (sym (ap (λ (y : PlacedStrip). y.id) (at_moved i d first)) ∙ (same ∙ (ap (λ (y : PlacedStrip). y.id) (at_moved j d second) ∙ kept_id (get_or plan.strips j d))))));
  }
    where
      kept_id : (t : PlacedStrip) → (moved_strip id offset t).id ≡ t.id
      kept_id t = elim (eqb t.id id) as (λ b. (if b then at_offset t offset else t).id ≡ t.id) [ true ↦ refl | false ↦ refl ]

      kept_width : (t : PlacedStrip) → 0 < t.width → 0 < (moved_strip id offset t).width
      kept_width t wide = elim (eqb t.id id) as (λ b. 0 < (if b then at_offset t offset else t).width) [ true ↦ wide | false ↦ wide ]

-- the strip that is found has the id
pub found_id : (strips : List PlacedStrip) (id : ℕ) (s : PlacedStrip) → strip_of strips id ≡ Some s → s.id ≡ id
found_id strips id s is = (found_at strips id s is).1.its_id

pub others_by : (strips : List PlacedStrip) (id other : ℕ) (strip : PlacedStrip) → id ≡ other → AreOthersApart strips id strip → AreOthersApart strips other strip
others_by strips id other strip same apart = subst (λ n. AreOthersApart strips n strip) same apart

-- an equal option in its unfolded form
pub found_is : (found : Option PlacedStrip) (s : PlacedStrip) → Some s ≡ option_map (λ (strip : PlacedStrip). strip) found → found ≡ Some s
found_is found s is = grind arith
