-- What is listed of nodes, from a table of their overuse.
use Rattle.one_user.proofs.Prelude.{ℕ, ◌≡◌, ◌+◌, ◌<◌, ◌≤◌, ◌⊎◌, Bool, true, false, cond, List, [], ◌∷◌, ◌++◌, filter, get_or, length, map, take, arith, refl, sym, ap, subst, ◌∙◌, append-nil, map-id, filter_of_map_range_with_len_more, AllZip, range_with_len, All, Routed, Standing, IsAfter, RoutingState, Wiring, long_after, AreMostOverused, IsOverused}

-- the table of accumulated overuse has an entry for each node
pub long_at : (w : Wiring) (state : RoutingState) (standing : Standing) → IsAfter w state standing → length state.history ≡ w.count
long_at w state standing after = ap (λ (routed : Routed). length routed.history) (sym after.exact) ∙ long_after w state.nets state.iterations

-- ---- a list made of another one, one item after another

pub told_more : {A B : Type 0} (R : A → B → Type 0) (xs : List A) (ys : List B) (x : A) (y : B) → AllZip R xs ys → R x y → AllZip R (xs ++ x ∷ []) (ys ++ y ∷ [])
told_more R [] [] x y told one = (one, tt)
told_more R [] (y' ∷ ys) x y told one = absurd told
told_more R (x' ∷ xs) [] x y told one = absurd told
told_more R (x' ∷ xs) (y' ∷ ys) x y told one = (told.0, told_more R xs ys x y told.1 one)

-- ---- the nets on a node, one net after another

filter_more : (test : ℕ → Bool) (count : ℕ) → filter test (range_with_len 0 (count + 1)) ≡ filter test (range_with_len 0 count) ++ cond (test count) (count ∷ []) []
filter_more test count =
    ap (filter test) (sym (map-id (range_with_len 0 (count + 1)))) ∙ filter_of_map_range_with_len_more test (λ x. x) 0 count count (omega arith)
    ∙ ap (λ xs. filter test xs ++ cond (test count) (count ∷ []) []) (map-id (range_with_len 0 count))

pub one_net : (test : ℕ → Bool) (count : ℕ) (old new : List ℕ) → old ≡ filter test (range_with_len 0 count) → test count ≡ true → new ≡ old ++ count ∷ [] → new ≡ filter test (range_with_len 0 (count + 1))
one_net test count old new is found more = grind (arith, filter_more)

pub no_net : (test : ℕ → Bool) (count : ℕ) (old new : List ℕ) → old ≡ filter test (range_with_len 0 count) → test count ≡ false → new ≡ old → new ≡ filter test (range_with_len 0 (count + 1))
no_net test count old new is missing same = grind (arith, append-nil, filter_more)

-- ---- two functions that agree on the nodes

module _ (over other : ℕ → ℕ) (count : ℕ) (same : (node : ℕ) → node < count → over node ≡ other node) where
  pub most_same : (limit : ℕ) (nodes : List ℕ) → AreMostOverused over count limit nodes → AreMostOverused other count limit nodes
  most_same limit nodes is = grind arith
