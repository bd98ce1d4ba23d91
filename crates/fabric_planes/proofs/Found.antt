-- What tables tell of wires.
use Rattle.fabric_planes.proofs.Prelude.{◌≡◌, ℕ, ◌+◌, ◌<◌, ◌⊎◌, List, sym, subst, inl, inr, arith, slice_index, cases_eq, cases_lt, NodeKind, Node, IsWire, Basis, IsBasis, graph_of, make_node, offset_of, place_of, place_count, IsWireOf, IsFirstAt, AreFirsts, NO_WIRE}
use Rattle.fabric_planes.proofs.Consecutive.{first_of, wire_low}

pub cases_wire : (kind : NodeKind) → IsWire kind ⊎ (IsWire kind → ⊥)
cases_wire kind = grind arith

pub same_offset : (basis : Basis) (kind : NodeKind) (x y n m : ℕ) → IsWire kind → offset_of basis kind (make_node x kind y n) ≡ offset_of basis kind (make_node x kind y m)
same_offset basis kind x y n m w = grind arith

module _ {basis : Basis} (is : IsBasis basis) where
  abbrev node : ℕ → Node
  node = (graph_of basis).node

  -- the first wire at the place of a wire
  pub record IsFirstFor (place number : ℕ) : Type 0 where
    pub first : ℕ
    pub at : IsFirstAt basis place first
    pub same : node first ≡ make_node (node number).x (node number).kind (node number).y 0
    pub apart : first + (node number).n ≡ number

  pub first_for : (place number : ℕ) → IsWireOf basis place number → IsFirstFor place number
  first_for place number w = grind (arith, first_of)

  -- the table has the first wire at a wire's place
  pub told_at : (table : List ℕ) → AreFirsts basis table → (place number : ℕ) (w : IsWireOf basis place number) → slice_index table place ≡ (first_for place number w).first
  told_at table told place number w = let f = first_for place number w in told.wires place f.first f.at.within f.at

  pub place_low : (place number : ℕ) → IsWireOf basis place number → place < place_count basis
  place_low place number w = subst (λ (p : ℕ). p < place_count basis) w.is_at (wire_low is number w.wire.within w.wire.wire)

  pub number_told : (table : List ℕ) → AreFirsts basis table → (place number : ℕ) → IsWireOf basis place number → slice_index table place + (node number).n ≡ number
  number_told table told place number w = omega (arith, told_at table told place number w, (first_for place number w).apart)

  -- a place of the table has none, or its first wire
  pub firsts_cases : (table : List ℕ) → AreFirsts basis table → (place : ℕ) → place < place_count basis → (slice_index table place ≡ NO_WIRE) ⊎ IsFirstAt basis place (slice_index table place)
  firsts_cases table told place b = elim (cases_lt number (graph_of basis).count) [
    | inr past ↦ inl (none (λ at. omega (arith, past, at.within)))
    | inl within ↦ elim (cases_wire (node number).kind) [
      | inr other ↦ inl (none (λ at. other at.first.wire))
      | inl wire ↦ elim (cases_eq (node number).n 0) [
        | inr other ↦ inl (none (λ at. other at.first.first))
        | inl first ↦ elim (cases_eq (place_of basis (node number)) place) [
          | inr other ↦ inl (none (λ at. other at.is_at))
          | inl is_at ↦ inr (record { within = within; first = record { wire = wire; first = first }; is_at = is_at })
        ]
      ]
    ]
  ]
    where
      number : ℕ
      number = slice_index table place

      none : (IsFirstAt basis place number → ⊥) → slice_index table place ≡ NO_WIRE
      none other = told.others place b (λ k l at. other (subst (IsFirstAt basis place) (sym (told.wires place k l at)) at))
