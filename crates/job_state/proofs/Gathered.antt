-- Lists gathered from lists of lists, one more at a time.
use Rattle.job_state.proofs.Prelude.{ℕ, ◌≡◌, ◌+◌, ◌<◌, List, [], ◌∷◌, ◌++◌, length, map, take, get_or, arith, sym, ap, ◌∙◌, flat_map, range_with_len, unary_clauses, take-suc, flat_map_more, flat_map-map, map-range_with_len_more}

one_more : {X : Type 0} (xs : List X) (i : ℕ) (d : X) → i < length xs → take (i + 1) xs ≡ take i xs ++ get_or xs i d ∷ []
one_more xs i d less = simp unary_clauses (take-suc xs i d less)

module _ {X A : Type 0} (f : X → List A) where
  pub gathered_more : (old new : List A) (xs : List X) (i : ℕ) (d : X) → i < length xs → new ≡ (old ++ flat_map f (take i xs)) ++ f (get_or xs i d) → new ≡ old ++ flat_map f (take (i + 1) xs)
  gathered_more old new xs i d less e = e ∙ (flat_map_more f old (take i xs) (get_or xs i d) ∙ ap (λ t. old ++ flat_map f t) (sym (one_more xs i d less)))

module _ {A : Type 0} (f : ℕ → List A) where
  pub gathered_to : (n : ℕ) → flat_map f (range_with_len 0 n) ++ f n ≡ flat_map f (range_with_len 0 (n + 1))
  gathered_to n =
      ap (λ t. t ++ f n) (sym (flat_map-map f (λ k. k) (range_with_len 0 n)))
      ∙ (flat_map_more f [] (map (λ k. k) (range_with_len 0 n)) n ∙ (ap (flat_map f) (sym (map-range_with_len_more (λ k. k) 0 n n (omega arith))) ∙ flat_map-map f (λ k. k) (range_with_len 0 (n + 1))))
