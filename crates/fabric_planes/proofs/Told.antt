-- The table of the first wires of places, one node after another.
use Rattle.fabric_planes.proofs.Prelude.{◌≡◌, ℕ, ◌+◌, ◌<◌, List, set, sym, ap, ◌∙◌, subst, inl, inr, arith, slice_index, cases_eq, get_or-set_same, get_or-set_other, length-set, Basis, IsBasis, graph_of, place_of, place_count, IsFirstWire, IsFirstAt, AreFirstsBelow}
use Rattle.fabric_planes.proofs.Consecutive.{wires_order}

module _ (basis : Basis) where
  -- the node is no wire of the first track
  pub told_skip : (count : ℕ) (table : List ℕ) → AreFirstsBelow basis count table → (IsFirstWire ((graph_of basis).node count) → ⊥) → AreFirstsBelow basis (count + 1) table
  told_skip count table told other = search arith

  -- one more wire of the first track
  pub told_more : IsBasis basis → (count place : ℕ) (table : List ℕ) → AreFirstsBelow basis count table → IsFirstAt basis place count → place < place_count basis → AreFirstsBelow basis (count + 1) (set table place count)
  told_more is count place table told at b =
      let here : slice_index (set table place count) place ≡ count = get_or-set_same table place count 0 (omega (arith, b, told.long)) in
      record {
        long = length-set table place count ∙ told.long;
        wires = λ p number l found. elim (cases_eq number count) [
          | inl same ↦
              let own : p ≡ place = sym found.is_at ∙ (ap (λ k. place_of basis ((graph_of basis).node k)) same ∙ at.is_at) in
              ap (slice_index (set table place count)) own ∙ (here ∙ sym same)
          | inr before ↦
              let less : number < count = omega (arith, l, before) in
              let order = wires_order is number count less at.within found.first.wire at.first.wire (found.first.first ∙ sym at.first.first) in
              let apart : p ≡ place → ⊥ = λ q. omega (arith, order, found.is_at, at.is_at, q) in
              get_or-set_other table place p count 0 apart ∙ told.wires p number less found
        ];
        others = λ p c nothing. elim (cases_eq p place) [
          | inl same ↦ absurd (nothing count (omega arith) (subst (λ (q : ℕ). IsFirstAt basis q count) (sym same) at))
          | inr apart ↦ get_or-set_other table place p count 0 apart ∙ told.others p c (λ number l found. nothing number (omega (arith, l)) found)
        ];
      }
