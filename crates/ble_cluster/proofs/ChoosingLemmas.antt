-- The choice of the next member.
use Rattle.ble_cluster.proofs.Prelude.{◌≡◌, ◌≢◌, ℕ, suc, zero, ◌+◌, ◌<◌, ◌≤◌, ◌⊎◌, inl, inr, Bool, true, false, not, ◌||◌, ◌&&◌, eqb, List, [], ◌∷◌, Option, Some, None, filter, length, take, get_or, if◌then◌else◌, sym, refl, ap, subst, ◌∙◌, arith, range_with_len, ForSome, take_more, cases_lt, nat_tests, eqb_tells, Arch, has, LogicElement, AreTouched, gain_at, IsBest, IsFirst, LeadsOver, SharesNet, beats, is_candidate, may_join, next_member, shared_nets, taken_at, free_in}
use Rattle.ble_cluster.proofs.Choice.{IsRising, first_most-is, first_most-none, has-filter, rising-filter, rising-range}
use Rattle.ble_cluster.proofs.Outside.{has-append}

-- the number is among the first ones of the list
abbrev pub IsAmongFirst : List ℕ → ℕ → ℕ → Type 0
IsAmongFirst numbers place number = has (take place numbers) number ≡ true

module _ (arch : Arch) (elements : List LogicElement) (taken : List Bool) (members gains : List ℕ) where
  abbrev IsBestOf : (ℕ → Type 0) → Option ℕ → Type 0
  IsBestOf Among best = IsBest arch elements taken members gains Among best

  abbrev candidate : ℕ → Bool
  candidate number = is_candidate arch elements taken members number

  -- the best is one of the BLEs
  pub best_small : (Among : ℕ → Type 0) (best : Option ℕ) → IsBestOf Among best → ForSome best (λ other. other < length elements)
  best_small Among None i = λ other is. absurd cc
  best_small Among (Some best) i = λ other is. let same : best ≡ other = cc in subst (λ number. number < length elements) same i.small

  -- an empty list has no best
  pub none_first : (numbers : List ℕ) → IsBestOf (IsAmongFirst numbers 0) None
  none_first numbers = λ other h. absurd cc

  -- a number leads if the other's score is not greater, and if for equal scores the other's number
  -- is not lesser
  leads : (number other : ℕ) → gain_at gains other ≤ gain_at gains number → (gain_at gains other ≡ gain_at gains number → number ≤ other) → LeadsOver (gain_at gains) number other
  leads number other least ties = elim (cases_lt (gain_at gains other) (gain_at gains number)) [
    | inl less ↦ inl less
    | inr most ↦ let same : gain_at gains other ≡ gain_at gains number = omega (arith, least, most) in inr (same, ties same)
  ]

  no_more : (number other : ℕ) → LeadsOver (gain_at gains) number other → gain_at gains other ≤ gain_at gains number
  no_more number other (inl more) = omega (arith, more)
  no_more number other (inr same) = omega (arith, same.0)

  ties_later : (number other : ℕ) → LeadsOver (gain_at gains) number other → gain_at gains other ≡ gain_at gains number → number ≤ other
  ties_later number other (inl more) e = absurd (omega (arith, more, e))
  ties_later number other (inr same) e = same.1

  beats_more : (first next : ℕ) → beats gains first (Some next) ≡ true → gain_at gains next ≤ gain_at gains first
  beats_more first next b = grind (arith, nat_tests, b)

  beats_ties : (first next : ℕ) → beats gains first (Some next) ≡ true → gain_at gains first ≡ gain_at gains next → first < next
  beats_ties first next b e = grind (arith, nat_tests, b, e)

  misses_more : (first next : ℕ) → beats gains first (Some next) ≡ false → gain_at gains first ≤ gain_at gains next
  misses_more first next b = grind (arith, nat_tests, b)

  misses_ties : (first next : ℕ) → beats gains first (Some next) ≡ false → gain_at gains first ≡ gain_at gains next → next ≤ first
  misses_ties first next b e = grind (arith, nat_tests, b, e)

  -- a number among the first ones and one more is among the first ones, or is that one
  split : (numbers : List ℕ) (place other : ℕ) → place < length numbers → IsAmongFirst numbers (place + 1) other → (IsAmongFirst numbers place other) ⊎ (get_or numbers place 0 ≡ other)
  split numbers place other small h = by (eqb_tells (get_or numbers place 0) other) (ap (λ front. has front other) (take_more numbers place 0 small) ∙ has-append (take place numbers) (get_or numbers place 0 ∷ []) other)
    where
      by : ((eqb (get_or numbers place 0) other ≡ true) × (get_or numbers place 0 ≡ other)) ⊎ ((eqb (get_or numbers place 0) other ≡ false) × (get_or numbers place 0 ≢ other))
          → has (take (place + 1) numbers) other ≡ (has (take place numbers) other || has (get_or numbers place 0 ∷ []) other) → (IsAmongFirst numbers place other) ⊎ (get_or numbers place 0 ≡ other)
      by (inl same) more = inr same.1
      by (inr differs) more = inl (grind (arith, h, more, differs.0))

  -- a candidate that beats the best replaces it
  best_more : (numbers : List ℕ) (place : ℕ) (best : Option ℕ) → place < length numbers → get_or numbers place 0 < length elements → 0 < gain_at gains (get_or numbers place 0) → IsBestOf (IsAmongFirst numbers place) best
      → beats gains (get_or numbers place 0) best ≡ true → candidate (get_or numbers place 0) ≡ true → IsBestOf (IsAmongFirst numbers (place + 1)) (Some (get_or numbers place 0))
  best_more numbers place best small within shares i b c = record {
    small = within;
    candidate = c;
    touched = shares;
    leads = λ other among is. elim (split numbers place other small among) [
      | inl before ↦ over best i b other before is
      | inr same ↦ inr (ap (gain_at gains) (sym same), omega (arith, same))
    ];
  }
    where
      over : (best : Option ℕ) → IsBestOf (IsAmongFirst numbers place) best → beats gains (get_or numbers place 0) best ≡ true → (other : ℕ) → IsAmongFirst numbers place other → candidate other ≡ true → LeadsOver (gain_at gains) (get_or numbers place 0) other
      over None i b other before is = let wrong : false ≡ true = sym (i other before) ∙ is in absurd cc
      over (Some best) i b other before is =
          let l = i.leads other before is in
          leads (get_or numbers place 0) other
          (omega (arith, no_more best other l, beats_more (get_or numbers place 0) best b))
          (λ e. let tied : gain_at gains other ≡ gain_at gains best = omega (arith, e, no_more best other l, beats_more (get_or numbers place 0) best b) in
          omega (arith, ties_later best other l tied, beats_ties (get_or numbers place 0) best b (omega (arith, e, tied))))

  -- a number that doesn't beat the best, or isn't a candidate, leaves it unchanged
  best_still : (numbers : List ℕ) (place : ℕ) (best : Option ℕ) → place < length numbers → IsBestOf (IsAmongFirst numbers place) best
      → (beats gains (get_or numbers place 0) best && candidate (get_or numbers place 0)) ≡ false → IsBestOf (IsAmongFirst numbers (place + 1)) best
  best_still numbers place None small i h = λ other among. elim (split numbers place other small among) [
    | inl before ↦ i other before
    | inr same ↦ rw same at h
  ]
  best_still numbers place (Some best) small i h = record {
    small = i.small;
    candidate = i.candidate;
    touched = i.touched;
    leads = λ other among is. elim (split numbers place other small among) [
      | inl before ↦ i.leads other before is
      | inr same ↦ over other same is
    ];
  }
    where
      over : (other : ℕ) → get_or numbers place 0 ≡ other → candidate other ≡ true → LeadsOver (gain_at gains) best other
      over other same is =
          let missed : (beats gains other (Some best) && candidate other) ≡ false = rw same at h in
          let b : beats gains other (Some best) ≡ false = grind (arith, missed, is) in
          leads best other (misses_more other best b) (misses_ties other best b)

  -- a step of the search
  pub best_step : (numbers : List ℕ) (place : ℕ) (best : Option ℕ) (preferred : Bool) → place < length numbers → get_or numbers place 0 < length elements → 0 < gain_at gains (get_or numbers place 0) → IsBestOf (IsAmongFirst numbers place) best
      → preferred ≡ (beats gains (get_or numbers place 0) best && candidate (get_or numbers place 0)) → IsBestOf (IsAmongFirst numbers (place + 1)) (if preferred then Some (get_or numbers place 0) else best)
  best_step numbers place best true small within shares i p = best_more numbers place best small within shares i (grind (arith, p)) (grind (arith, p))
  best_step numbers place best false small within shares i p = best_still numbers place best small i (sym p)

-- the number at an index of a list is in the list
has_at : (numbers : List ℕ) (place : ℕ) → place < length numbers → has numbers (get_or numbers place 0) ≡ true
has_at [] place small = absurd (omega (arith, small))
has_at (number ∷ numbers) zero small = grind (arith, nat_tests)
has_at (number ∷ numbers) (suc place) small = let ih = has_at numbers place (omega (arith, small)) in grind (arith, ih)

-- a touched BLE shares a net
pub touched_shares : (gains numbers : List ℕ) (place : ℕ) → place < length numbers → AreTouched gains numbers → 0 < gain_at gains (get_or numbers place 0)
touched_shares gains numbers place small t = grind (arith, has_at)

pub has-range : (start count number : ℕ) → has (range_with_len start count) number ≡ true → (start ≤ number) × (number < start + count)
has-range start zero number h = absurd cc
has-range start (suc count) number h = grind (arith, has-range (start + 1) count number)

pub in-range : (start count number : ℕ) → start ≤ number → number < start + count → has (range_with_len start count) number ≡ true
in-range start zero number from to = absurd (omega (arith, from, to))
in-range start (suc count) number from to = grind (arith, in-range (start + 1) count number)

module _ (arch : Arch) (elements : List LogicElement) (taken : List Bool) (members : List ℕ) (count : length taken ≡ length elements) where
  -- the candidates, in order
  abbrev listed : List ℕ
  listed = filter (may_join arch elements members) (free_in taken)

  listed_rise : IsRising listed
  listed_rise = rising-filter (may_join arch elements members) (free_in taken) (rising-filter (λ number. not (taken_at taken number)) (range_with_len 0 (length taken)) (rising-range 0 (length taken)))

  -- a listed number is a candidate
  pub record IsListed (number : ℕ) : Type 0 where
    pub small : number < length elements
    pub candidate : is_candidate arch elements taken members number ≡ true

  from_listed : (number : ℕ) → has listed number ≡ true → IsListed number
  from_listed number h =
      let a = has-filter (may_join arch elements members) (free_in taken) number in
      let b = has-filter (λ n. not (taken_at taken n)) (range_with_len 0 (length taken)) number in
      let r = has-range 0 (length taken) number (in_range number h a b) in
      record { small = omega (arith, r.1, count); candidate = grind (arith, h, a, b) }
    where
      in_range : (number : ℕ) → has listed number ≡ true → has listed number ≡ (may_join arch elements members number && has (free_in taken) number) → has (free_in taken) number ≡ (not (taken_at taken number) && has (range_with_len 0 (length taken)) number) → has (range_with_len 0 (length taken)) number ≡ true
      in_range number h a b = grind (arith, h, a, b)

  to_listed : (number : ℕ) → number < length elements → is_candidate arch elements taken members number ≡ true → has listed number ≡ true
  to_listed number small c =
      let a = has-filter (may_join arch elements members) (free_in taken) number in
      let b = has-filter (λ n. not (taken_at taken n)) (range_with_len 0 (length taken)) number in
      let r = in-range 0 (length taken) number (omega arith) (omega (arith, small, count)) in
      grind (arith, a, b, r, c)

  pub next_leads : (number : ℕ) → number < length elements → is_candidate arch elements taken members number ≡ true
      → ((other : ℕ) → other < length elements → is_candidate arch elements taken members other ≡ true → LeadsOver (shared_nets elements members) number other) → next_member arch elements (free_in taken) members ≡ Some number
  next_leads number small c l = first_most-is (shared_nets elements members) listed number listed_rise (to_listed number small c) (λ other h. let f = from_listed other h in l other f.small f.candidate)

  pub next_none : ((other : ℕ) → other < length elements → is_candidate arch elements taken members other ≡ false) → next_member arch elements (free_in taken) members ≡ None
  next_none n = first_most-none (shared_nets elements members) listed (λ other h. let f = from_listed other h in let wrong : false ≡ true = sym (n other f.small) ∙ f.candidate in absurd cc)

  module _ (gains : List ℕ) (shared : (number : ℕ) → number < length elements → gain_at gains number ≡ shared_nets elements members number) where
    -- the best of those that share a net is the next
    pub next_best : (best : ℕ) → IsBest arch elements taken members gains (SharesNet elements gains) (Some best) → Some best ≡ next_member arch elements (free_in taken) members
    next_best best i = sym (next_leads best i.small i.candidate (λ other small c. over other small c (gain_at gains other) refl))
      where
        over : (other : ℕ) → other < length elements → is_candidate arch elements taken members other ≡ true → (gain : ℕ) → gain_at gains other ≡ gain → LeadsOver (shared_nets elements members) best other
        over other small c zero e = inl (omega (arith, shared other small, shared best i.small, e, i.touched))
        over other small c (suc gain) e = moved (i.leads other (record { small = small; shares = omega (arith, e) }) c)
          where
            moved : LeadsOver (gain_at gains) best other → LeadsOver (shared_nets elements members) best other
            moved (inl more) = inl (omega (arith, shared other small, shared best i.small, more))
            moved (inr same) = inr (omega (arith, shared other small, shared best i.small, same.0), same.1)

    -- if none of these is a candidate, the least candidate is the next
    pub next_first : (first : Option ℕ) → IsBest arch elements taken members gains (SharesNet elements gains) None → IsFirst arch elements taken members first → first ≡ next_member arch elements (free_in taken) members
    next_first None i f = sym (next_none f)
    next_first (Some number) i f = sym (next_leads number f.small f.candidate (λ other small c. inr (omega (arith, none other small c, none number f.small f.candidate), later other c)))
      where
        none_from : (other : ℕ) → other < length elements → is_candidate arch elements taken members other ≡ true → (gain : ℕ) → gain_at gains other ≡ gain → gain_at gains other ≡ 0
        none_from other small c zero e = e
        none_from other small c (suc gain) e = let wrong : false ≡ true = sym (i other (record { small = small; shares = omega (arith, e) })) ∙ c in absurd cc

        none : (other : ℕ) → other < length elements → is_candidate arch elements taken members other ≡ true → shared_nets elements members other ≡ 0
        none other small c = sym (shared other small) ∙ none_from other small c (gain_at gains other) refl

        later : (other : ℕ) → is_candidate arch elements taken members other ≡ true → number ≤ other
        later other c = elim (cases_lt other number) [
          | inl less ↦ (let wrong : false ≡ true = sym (f.least other less) ∙ c in absurd cc)
          | inr from ↦ from
        ]
