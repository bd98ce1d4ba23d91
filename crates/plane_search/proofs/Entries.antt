-- Entries that wait in two lists.
use Rattle.plane_search.proofs.Prelude.{◌≡◌, ℕ, ◌<◌, Option, Some, None, IfSome, List, [], ◌∷◌, ◌++◌, length, get_or, swap_remove, option_to_list, IsPermutation, append_assoc, IsPermutation-sym, IsPermutation-trans, IsPermutation-to_front, IsPermutation-middle, IsPermutation-append_left, IsPermutation-append_right, IsPermutation-swap_remove, Open}

module _ (next later : List (Open ℕ)) (item : Open ℕ) where
  -- an entry is appended to one of the lists
  pub put_next : (items : List (Open ℕ)) → items ≡ next ++ item ∷ [] → IsPermutation (item ∷ (next ++ later)) (items ++ later)
  put_next items is = rw is (IsPermutation-append_left later (item ∷ next) (next ++ item ∷ []) (IsPermutation-sym (next ++ item ∷ []) (item ∷ next) (IsPermutation-to_front next item)))

  pub put_later : (items : List (Open ℕ)) → items ≡ later ++ item ∷ [] → IsPermutation (item ∷ (next ++ later)) (next ++ items)
  put_later items is = rw is
      (IsPermutation-trans (item ∷ (next ++ later)) (next ++ item ∷ later) (next ++ (later ++ item ∷ []))
      (IsPermutation-sym (next ++ item ∷ later) (item ∷ (next ++ later)) (IsPermutation-middle next item later))
      (IsPermutation-append_right next (item ∷ later) (later ++ item ∷ []) (IsPermutation-sym (later ++ item ∷ []) (item ∷ later) (IsPermutation-to_front later item))))

  -- the last one is taken
  pub taken : (items : List (Open ℕ)) → items ≡ next ++ item ∷ [] → IsPermutation (items ++ later) (item ∷ (next ++ later))
  taken items is = rw is (IsPermutation-append_left later (next ++ item ∷ []) (item ∷ next) (IsPermutation-to_front next item))

  -- an entry is moved from one list to the end of the other
  pub moved : (index : ℕ) (items : List (Open ℕ)) → index < length later → item ≡ get_or later index item → items ≡ next ++ item ∷ [] → IsPermutation (next ++ later) (items ++ swap_remove later index item)
  moved index items b at is =
      let rest = swap_remove later index item in
      rw (is, append_assoc next (item ∷ []) rest) (IsPermutation-append_right next later (item ∷ rest) (IsPermutation-swap_remove later index item b at))

-- the last one, if there is one
pub took : (old next later rest : List (Open ℕ)) (last : Option (Open ℕ)) → IsPermutation old (next ++ later) → next ≡ rest ++ option_to_list last → IfSome last (λ item. IsPermutation old (item ∷ (rest ++ later)))
took old next later rest None same is = tt
took old next later rest (Some item) same is = IsPermutation-trans old (next ++ later) (item ∷ (rest ++ later)) same (taken rest later item next is)
