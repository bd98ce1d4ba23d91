-- Prices at occupancies that change.
use Rattle.pathfinder.proofs.Prelude.{◌≡◌, ℕ, suc, refl, ◌+◌, ◌<◌, List, [], ◌∷◌, length, true, false, cond, eqb, arith, ◌∙◌, slice_index, eqb-true, sum_by-cons, Basis, AgreeBut, wiring_of, AreHeldBut, tabled_graph, times_in}

-- a node that is not in a list doesn't occur in it
no_times : (nodes : List ℕ) (node : ℕ) → ((k : ℕ) → k < length nodes → slice_index nodes k ≡ node → ⊥) → times_in node nodes ≡ 0
no_times [] node h = refl
no_times (x ∷ xs) node h =
    sum_by-cons (λ other. cond (eqb other node) 1 0) x xs ∙
    elim (eqb x node) as (λ b. eqb x node ≡ b → cond b 1 0 + times_in node xs ≡ 0) [
      | true ↦ λ f. absurd (h 0 (omega arith) (eqb-true x node f))
      | false ↦ λ f. (let rest = no_times xs node (λ k l e. h (suc k) (omega (arith, l)) e) in omega (arith, rest))
    ] refl

-- costs change only where the occupancy does
pub agree : (basis : Basis) (i : ℕ) (history old new nodes : List ℕ) → AreHeldBut old new nodes
    → AgreeBut basis (tabled_graph (wiring_of basis) i history old).cost (tabled_graph (wiring_of basis) i history new).cost nodes
agree basis i history old new nodes same = grind (arith, no_times)
