-- The index of a net.
use Rattle.configuration_text.proofs.Prelude.{◌≡◌, ℕ, ◌+◌, ◌==◌, ◌≤◌, Bool, true, false, ◌||◌, not, List, cond, drop, length, Option, Some, None, sym, ap, ◌∙◌, slice_get, prefix_len, at_drop_all, has}
use Rattle.configuration_text.proofs.Rest.{prefix_more, prefix_stop, rest_more}

abbrev is_other : ℕ → ℕ → Bool
is_other net other = not (other == net)

-- the net is not among the first ones
pub record IsSearched (nets : List ℕ) (net i : ℕ) : Type 0 where
  pub has : has (drop i nets) net ≡ has nets net
  pub at : i + prefix_len (λ other. not (other == net)) (drop i nets) ≡ prefix_len (λ other. not (other == net)) nets

abbrev pub number_in : List ℕ → ℕ → Option ℕ
number_in nets net = cond (has nets net) (Some (prefix_len (λ other. not (other == net)) nets)) None

module _ (nets : List ℕ) (net i : ℕ) (h : IsSearched nets net i) where
  pub search_hit : (x : ℕ) → slice_get nets i ≡ Some x → (x == net) ≡ true → Some i ≡ number_in nets net
  search_hit x get is =
      let here : has nets net ≡ true = sym h.has ∙ rest_more (λ ns. has ns net) nets i x get ∙ ap (λ (b : Bool). b || has (drop (i + 1) nets) net) is in
      let at = prefix_stop (is_other net) nets i x (prefix_len (is_other net) nets) get (ap (λ (b : Bool). not b) is) h.at in
      ap (λ (n : ℕ). Some n) at ∙ sym (ap (λ (b : Bool). cond b (Some (prefix_len (is_other net) nets)) None) here)

  pub search_miss : (x : ℕ) → slice_get nets i ≡ Some x → (x == net) ≡ false → IsSearched nets net (i + 1)
  search_miss x get is = record {
    has = sym (rest_more (λ ns. has ns net) nets i x get ∙ ap (λ (b : Bool). b || has (drop (i + 1) nets) net) is) ∙ h.has;
    at = prefix_more (is_other net) nets i x (prefix_len (is_other net) nets) get (ap (λ (b : Bool). not b) is) h.at;
  }

  pub search_end : length nets ≤ i → None ≡ number_in nets net
  search_end long =
      let here : has nets net ≡ false = sym h.has ∙ at_drop_all (λ ns. has ns net) nets i long in
      sym (ap (λ (b : Bool). cond b (Some (prefix_len (is_other net) nets)) None) here)
