-- The bits of a table are its rows.
use Rattle.std.proofs.Common.{◌≡◌, ℕ, suc, zero, ◌+◌, ◌<◌, ◌^◌, ◌==◌, Bool, true, false, ◌||◌, not, List, [], ◌∷◌, All, cond, map, Option, Some, None, slice_get, option_map, sym, ap, refl, ◌∙◌, subst, arith}
use Rattle.std.specs.List.{list_any, prefix_len, range_with_len}
use Rattle.std.proofs.lemmas.Bool.{eqb-true, false≢true}
use Rattle.std.proofs.lemmas.List.Elements.{All-head, All-tail}
use Rattle.table_rows.specs.TableBits.{bit_of, bits_of, value_in, value_of}

-- the place of a net among others
pub net_at : (nets : List ℕ) (net : ℕ) → list_any (λ other. other == net) nets ≡ true → slice_get nets (prefix_len (λ other. not (other == net)) nets) ≡ Some net
net_at [] net h = absurd (false≢true h)
net_at (first ∷ nets) net h = by (first == net) refl (net_at nets net) h
  where
    later : (k : ℕ) → slice_get nets k ≡ Some net → slice_get (first ∷ nets) (1 + k) ≡ Some net
    later k e = let more : 1 + k ≡ suc k = omega arith in subst (λ n. slice_get (first ∷ nets) n ≡ Some net) (sym more) e

    by : (b : Bool) → (first == net) ≡ b → (list_any (λ other. other == net) nets ≡ true → slice_get nets (prefix_len (λ other. not (other == net)) nets) ≡ Some net) → (b || list_any (λ other. other == net) nets) ≡ true →
        slice_get (first ∷ nets) (cond (not b) (1 + prefix_len (λ other. not (other == net)) nets) 0) ≡ Some net
    by true same rest h = ap (λ (n : ℕ). Some n) (eqb-true first net same)
    by false same rest h = later (prefix_len (λ other. not (other == net)) nets) (rest h)

get_mapped : {X : Type 0} (f : ℕ → X) (start count k : ℕ) → k < count → slice_get (map f (range_with_len start count)) k ≡ Some (f (start + k))
get_mapped f start zero k h = absurd (omega (arith, h))
get_mapped f start (suc count) zero h = ap (λ (n : ℕ). Some (f n)) (omega arith)
get_mapped f start (suc count) (suc k) h = get_mapped f (start + 1) count k (omega (arith, h)) ∙ ap (λ (n : ℕ). Some (f n)) (omega arith)

same_values : (nets : List ℕ) (number : ℕ) (values : ℕ → Bool) → ((j net : ℕ) → slice_get nets j ≡ Some net → values net ≡ bit_of number j) → (inputs : List ℕ) →
    All (λ net. list_any (λ other. other == net) nets ≡ true) inputs → map (value_in nets number) inputs ≡ map values inputs
same_values nets number values are [] all = refl
same_values nets number values are (net ∷ inputs) all =
    let P : ℕ → Type 0 = λ net. list_any (λ other. other == net) nets ≡ true in
    let here : values net ≡ value_in nets number net = are (prefix_len (λ other. not (other == net)) nets) net (net_at nets net (All-head P net inputs all)) in
    let rest = same_values nets number values are inputs (All-tail P net inputs all) in
    ap (λ (b : Bool). b ∷ map (value_in nets number) inputs) (sym here) ∙ ap (λ (bs : List Bool). values net ∷ bs) rest

pub bits_same : (width : ℕ) (rows : List (List (List ℕ))) (inputs nets : List ℕ) (number : ℕ) (values : ℕ → Bool) → number < 2 ^ width → All (λ net. list_any (λ other. other == net) nets ≡ true) inputs →
    ((j net : ℕ) → slice_get nets j ≡ Some net → values net ≡ bit_of number j) → slice_get (bits_of width rows inputs nets) number ≡ Some (value_of rows (map values inputs))
bits_same width rows inputs nets number values small known are =
    let bit : ℕ → Bool = λ n. value_of rows (map (value_in nets n) inputs) in
    let zero' : 0 + number ≡ number = omega arith in
    get_mapped bit 0 (2 ^ width) number small ∙ ap (λ (n : ℕ). Some (bit n)) zero' ∙ ap (λ (vs : List Bool). Some (value_of rows vs)) (same_values nets number values are inputs known)
