-- The starts of ways.
use Rattle.longest_path.proofs.Prelude.{ℕ, ◌≡◌, ◌+◌, ◌<◌, ◌∙◌, ◌⊎◌, List, length, get_or, set, take, length-set, sym, ap, subst, arith, inl, inr, length-take-le, All, cases_eq, get_or-set_other, get_or-set_same, get_or-take, Reach, IsIn, IsBegun, reach_of, none, steps_to}

-- a start, at one step from itself
abbrev start : ℕ → Reach
start net = record { steps = 1; start = net }

-- a net among the first ones, and the next one, is among one more
earlier : (starts : List ℕ) (i net : ℕ) → i < length starts → IsIn (take i starts) net → IsIn (take (i + 1) starts) net
earlier starts i net within among = grind (arith, length-take-le, get_or-take)

last : (starts : List ℕ) (i : ℕ) → i < length starts → IsIn (take (i + 1) starts) (get_or starts i 0)
last starts i within = grind (arith, length-take-le, get_or-take)

either : (starts : List ℕ) (i net : ℕ) → i < length starts → IsIn (take (i + 1) starts) net → (net ≡ get_or starts i 0) ⊎ IsIn (take i starts) net
either starts i net within among = grind (arith, length-take-le, get_or-take)

-- one more start is reached
pub one_more : (nets : ℕ) (starts : List ℕ) (i : ℕ) (reach : List Reach) → i < length starts → All (λ net. net < nets) starts → IsBegun nets (take i starts) reach
    → IsBegun nets (take (i + 1) starts) (set reach (get_or starts i 0) (record { steps = 1; start = get_or starts i 0 }))
one_more nets starts i reach within all begun =
    let this : ℕ = get_or starts i 0 in
    let here : this < nets = all i 0 within in
    let long : length reach ≡ nets = begun.long in
    let new : List Reach = set reach this (start this) in
    let at : reach_of new this ≡ start this = get_or-set_same reach this (start this) none (omega arith) in
    record {
      long = length-set reach this (start this) ∙ long;
      started = λ net among. elim (cases_eq net this) [
        | inl same ↦ ap (λ n. steps_to new n) same ∙ ap (λ (r : Reach). r.steps) at
        | inr off ↦ ap (λ (r : Reach). r.steps) (get_or-set_other reach this net (start this) none off) ∙ begun.started net (elim (either starts i net within among) [ inl e ↦ absurd (off e) | inr in_first ↦ in_first ])
      ];
      only = λ net reached. elim (cases_eq net this) [
        | inl same ↦ (
          subst (IsIn (take (i + 1) starts)) (sym same) (last starts i within),
          ap (λ n. steps_to new n) same ∙ ap (λ (r : Reach). r.steps) at,
          ap (λ n. (reach_of new n).start) same ∙ (ap (λ (r : Reach). r.start) at ∙ sym same),
        )
        | inr off ↦
            let e : reach_of new net ≡ reach_of reach net = get_or-set_other reach this net (start this) none off in
            let was = begun.only net (subst (λ (r : Reach). 0 < r.steps) e reached) in
            (earlier starts i net within was.0, ap (λ (r : Reach). r.steps) e ∙ was.1, ap (λ (r : Reach). r.start) e ∙ was.2)
      ];
    }
