-- Names that were added only if they were new are distinct.
use Rattle.blif.proofs.Prelude.{◌≡◌, ◌≢◌, ℕ, suc, zero, ◌<◌, Bool, true, false, ◌||◌, List, [], ◌∷◌, ◌++◌, AllPairs, length, get_or, if◌then◌else◌, refl, sym, ap, arith, all_pairs_push, bytes_eq-Decides, has_name, with_name, with_names}

or_right : (a b : Bool) → (a || b) ≡ false → b ≡ false
or_right a b h = grind arith

-- a name that doesn't occur differs from those that do
differs : (names : List (List ℕ)) (name : List ℕ) → has_name names name ≡ false → (k : ℕ) (d : List ℕ) → k < length names → get_or names k d ≢ name
differs [] name h k d within = absurd (omega arith)
differs (x ∷ names) name h zero d within = λ same. let there = ap (λ b. b || has_name names name) ((bytes_eq-Decides name x).1 (sym same)) in cc
differs (x ∷ names) name h (suc k) d within = differs names name (or_right _ _ h) k d (omega arith)

-- distinct names are still distinct after others are added
pub names_differ : (names others : List (List ℕ)) → AllPairs (λ name other. name ≢ other) names → AllPairs (λ name other. name ≢ other) (with_names names others)
names_differ names [] h = h
names_differ names (added ∷ others) h = names_differ (with_name names added) others (by (has_name names added) refl)
  where
    by : (b : Bool) → has_name names added ≡ b → AllPairs (λ name other. name ≢ other) (if b then names else names ++ added ∷ [])
    by true is = h
    by false is = all_pairs_push (λ name other. name ≢ other) names added h (λ k d within. differs names added is k d within)
