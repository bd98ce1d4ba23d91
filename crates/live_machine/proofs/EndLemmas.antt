-- What held names are told at the end.
use Rattle.live_machine.proofs.Prelude.{option_map, slice_get, ◌≡◌, ℕ, zero, suc, ◌+◌, ◌≤◌, List, [], ◌∷◌, ◌++◌, length, take, Some, None, sym, ap, ◌∙◌, arith, append-nil, append_assoc, no_memory_text, output_of, for_name, Held, lost_texts}

abbrev lost_one : List ℕ → List ℕ
lost_one name = output_of (for_name name no_memory_text ∷ [])

-- one more name
pub next_lost : (held : List Held) (place : ℕ) (name : List ℕ) → option_map (λ (h : Held). h.name) (slice_get held place) ≡ Some name → lost_texts (take (place + 1) held) ≡ lost_texts (take place held) ++ output_of (for_name name no_memory_text ∷ [])
next_lost [] place name is = absurd (cc)
next_lost (h ∷ held) zero name is = grind (arith, append-nil)
next_lost (h ∷ held) (suc n) name is =
    let next : suc n + 1 ≡ suc (n + 1) = omega arith in
    ap (λ k. lost_texts (take k (h ∷ held))) next
    ∙ (ap (λ x. lost_one h.name ++ x) (next_lost held n name is)
    ∙ sym (append_assoc (lost_one h.name) (lost_texts (take n held)) (lost_one name)))

-- there is none at that place
pub none_past : (held : List Held) (place : ℕ) → option_map (λ (h : Held). h.name) (slice_get held place) ≡ None → length held ≤ place
none_past [] place is = omega arith
none_past (h ∷ held) zero is = absurd (cc)
none_past (h ∷ held) (suc n) is = let past = none_past held n is in omega (arith, past)
