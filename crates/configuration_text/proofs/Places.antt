-- Free places, one after another.
use Rattle.configuration_text.proofs.Prelude.{◌≡◌, ℕ, suc, ◌+◌, ◌-◌, ◌<◌, ◌≤◌, Bool, true, false, not, List, [], ◌∷◌, ◌++◌, cond, drop, filter, length, Option, Some, sym, ap, ◌∙◌, arith, append_assoc, append-nil, slice_get, list_any, range_with_len, at_drop_all, filled_places, free_places, is_place, free_from}
use Rattle.configuration_text.proofs.Rest.{rest_more}

abbrev is_free : List (Option ℕ) → ℕ → Bool
is_free routed place = not (list_any (is_place place) routed)

module _ (count : ℕ) (routed : List (Option ℕ)) (from : ℕ) where
  free_more : from < count → free_from count routed from ≡ cond (is_free routed from) (from ∷ free_from count routed (from + 1)) (free_from count routed (from + 1))
  free_more small = let e : count - from ≡ suc (count - (from + 1)) = omega arith in ap (λ (k : ℕ). filter (is_free routed) (range_with_len from k)) e

  -- the place is free, or it is not
  pub free_hit : from < count → is_free routed from ≡ true → free_from count routed from ≡ from ∷ free_from count routed (from + 1)
  free_hit small is = free_more small ∙ ap (λ (b : Bool). cond b (from ∷ free_from count routed (from + 1)) (free_from count routed (from + 1))) is

  pub free_miss : from < count → is_free routed from ≡ false → free_from count routed from ≡ free_from count routed (from + 1)
  free_miss small is = free_more small ∙ ap (λ (b : Bool). cond b (from ∷ free_from count routed (from + 1)) (free_from count routed (from + 1))) is

  pub free_end : count ≤ from → free_from count routed from ≡ []
  free_end long = let e : count - from ≡ 0 = omega arith in ap (λ (k : ℕ). filter (is_free routed) (range_with_len from k)) e

pub free_all : (count : ℕ) (routed : List (Option ℕ)) → free_from count routed 0 ≡ free_places count routed
free_all count routed = let e : count - 0 ≡ count = omega arith in ap (λ (k : ℕ). filter (is_free routed) (range_with_len 0 k)) e

-- one BLE more has its place
pub fill_more : (routed : List (Option ℕ)) (i : ℕ) (asked : Option ℕ) (free left filled old all new : List ℕ) (place : ℕ) → slice_get routed i ≡ Some asked → ((rest : List (Option ℕ)) → filled_places (asked ∷ rest) free ≡ place ∷ filled_places rest left) →
    filled ++ filled_places (drop i routed) free ≡ old ++ all → new ≡ filled ++ place ∷ [] → new ++ filled_places (drop (i + 1) routed) left ≡ old ++ all
fill_more routed i asked free left filled old all new place get step h e =
    let rest = drop (i + 1) routed in
    ap (λ (t : List ℕ). t ++ filled_places rest left) e ∙ append_assoc filled (place ∷ []) (filled_places rest left)
    ∙ ap (λ (t : List ℕ). filled ++ t) (sym (rest_more (λ rs. filled_places rs free) routed i asked get ∙ step rest)) ∙ h

pub fill_end : (routed : List (Option ℕ)) (i : ℕ) (free filled old all : List ℕ) → length routed ≤ i → filled ++ filled_places (drop i routed) free ≡ old ++ all → filled ≡ old ++ all
fill_end routed i free filled old all long h = sym (append-nil filled) ∙ sym (ap (λ (t : List ℕ). filled ++ t) (at_drop_all (λ rs. filled_places rs free) routed i long)) ∙ h
