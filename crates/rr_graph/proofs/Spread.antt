-- Whether a pin meets a track, by arithmetic: the spread numbers increase, so only the first that
-- is far enough has to be tested.
use Rattle.rr_graph.proofs.Prelude.{ℕ, ◌≡◌, ◌+◌, ◌-◌, ◌*◌, ◌/◌, ◌%◌, ◌<◌, ◌≤◌, Bool, false, get_or, inl, inr, sym, ap, ◌∙◌, subst, arith, mul_comm, ◌==◌, range_with_len, cases_lt, cases_Bool, eq-eqb, eqb-true, false≢true, list_any_none, get_or-range_with_len, length-range_with_len, mod-mul-add, mod_below, div-add-mod', div_below, le-div, mul-le, same_from_place, meets_track}
use Rattle.rr_graph.proofs.Nearness.{any_in_range}

-- the track is at this distance after the pin's own number
pub record IsApart (w p track apart : ℕ) : Type 0 where
  pub below : apart < w
  pub meets : (apart + p) % w ≡ track

pub is_apart : (w p track : ℕ) → track < w → IsApart w p track ((track + w - p % w) % w)
is_apart w p track low =
    let some : 0 < w = omega (arith, low) in
    let q : ℕ = p / w in
    let r : ℕ = p % w in
    let below : r < w = mod_below p w some in
    let e : q * w + r ≡ p = div-add-mod' p w in
    elim (cases_lt track r) [
      | inl less ↦ (let sum : track + w - r ≡ 0 * w + (track + w - r) = omega arith in
          let is : (track + w - r) % w ≡ track + w - r = ap (λ n. n % w) sum ∙ mod-mul-add 0 w (track + w - r) (omega (arith, less, below)) in
          let at : track + w - r + p ≡ (q + 1) * w + track = omega (arith, e, less, below) in
          subst (IsApart w p track) (sym is) (record { below = omega (arith, less, below); meets = ap (λ n. n % w) at ∙ mod-mul-add (q + 1) w track low }))
      | inr ge ↦ (let sum : track + w - r ≡ 1 * w + (track - r) = omega (arith, ge) in
          let is : (track + w - r) % w ≡ track - r = ap (λ n. n % w) sum ∙ mod-mul-add 1 w (track - r) (omega (arith, low)) in
          let at : track - r + p ≡ q * w + track = omega (arith, e, ge) in
          subst (IsApart w p track) (sym is) (record { below = omega (arith, low); meets = ap (λ n. n % w) at ∙ mod-mul-add q w track low }))
    ]

-- no other number is at this distance
one_apart : (w p track apart other : ℕ) → IsApart w p track apart → other < w → (other + p) % w ≡ track → other ≡ apart
one_apart w p track apart other is low meets =
    let m : ℕ = (other + p) / w in
    let n : ℕ = (apart + p) / w in
    let here : m * w + (other + p) % w ≡ other + p = div-add-mod' (other + p) w in
    let there : n * w + (apart + p) % w ≡ apart + p = div-add-mod' (apart + p) w in
    let same : n * w + other ≡ m * w + apart = omega (arith, here, there, meets, is.meets) in
    (same_from_place n other m apart w low is.below same).1

-- the first number that is spread at least this far
reaches : (f w apart : ℕ) → 0 < w → apart * f ≤ (apart * f + w - 1) / w * w
reaches f w apart some = omega (arith, div-add-mod' (apart * f + w - 1) w, mod_below (apart * f + w - 1) w some)

least : (f w apart k : ℕ) → 0 < w → apart * f ≤ k * w → (apart * f + w - 1) / w ≤ k
least f w apart k some far = grind arith

-- if it is spread exactly this far, it is one of the pin's
among : (f w apart first : ℕ) → 0 < f → apart < w → first * w / f ≡ apart → first < f
among f w apart first some low is = grind arith

-- if one of the pin's numbers is spread exactly this far, so is the first
spread_to : (f w p track apart j : ℕ) → 0 < f → IsApart w p track apart → j < f → (j * w / f + p) % w ≡ track → (apart * f + w - 1) / w * w / f ≡ apart
spread_to f w p track apart j some is few meets =
    let some_w : 0 < w = omega (arith, is.below) in
    let first : ℕ = (apart * f + w - 1) / w in
    let next : (j + 1) * w ≤ f * w = mul-le (j + 1) w f w (omega (arith, few)) (omega arith) in
    let below : j * w / f < w = div_below (j * w) f w some (omega (arith, next, some_w, mul_comm f w)) in
    let far : j * w / f ≡ apart = one_apart w p track apart (j * w / f) is below meets in
    let whole : apart * f + j * w % f ≡ j * w = ap (λ n. n * f + j * w % f) (sym far) ∙ div-add-mod' (j * w) f in
    let rest : j * w % f < f = mod_below (j * w) f some in
    let order : first ≤ j = least f w apart j some_w (omega (arith, whole)) in
    let most : first * w ≤ j * w = mul-le first w j w order (omega arith) in
    let high : apart ≤ first * w / f = le-div apart (first * w) f some (reaches f w apart some_w) in
    let low : first * w / f < apart + 1 = div_below (first * w) f (apart + 1) some (omega (arith, most, whole, rest)) in
    omega (arith, high, low)

-- the test of the first number decides
pub first_tells : (f w p track apart first : ℕ) → 0 < f → IsApart w p track apart → first ≡ (apart * f + w - 1) / w →
    (first * w / f == apart) ≡ meets_track f w p track
first_tells f w p track apart first some is e =
    let test : ℕ → Bool = λ j. (j * w / f + p) % w == track in
    elim (cases_Bool (first * w / f == apart)) [
      | inl same ↦ (let at : first * w / f ≡ apart = eqb-true (first * w / f) apart same in
          same ∙ sym (any_in_range test f first (among f w apart first some is.below at) (eq-eqb _ _ (ap (λ n. (n + p) % w) at ∙ is.meets))))
      | inr isn't ↦ isn't ∙ sym (list_any_none test (range_with_len 0 f) (λ k d within.
          let lt : k < f = omega (arith, length-range_with_len 0 f) in
          let j : ℕ = get_or (range_with_len 0 f) k d in
          let few : j < f = omega (arith, get_or-range_with_len 0 f k d lt, lt) in
          elim (cases_Bool (test j)) [
            | inl met ↦ absurd (false≢true (sym isn't ∙ eq-eqb _ _ (ap (λ n. n * w / f) e ∙ spread_to f w p track apart j some is few (eqb-true ((j * w / f + p) % w) track met))))
            | inr unmet ↦ unmet
          ]))
    ]

-- no track comes after the last one
pub past_tracks : (f w p track : ℕ) → 0 < w → w ≤ track → meets_track f w p track ≡ false
past_tracks f w p track some high = grind (arith, list_any_none)
