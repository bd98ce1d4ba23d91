-- The starts that are wires, and the others.
use Rattle.fabric_planes.proofs.Prelude.{◌≡◌, ℕ, suc, ◌⊎◌, List, [], ◌∷◌, ◌++◌, refl, sym, ap, ◌∙◌, subst, arith, inl, inr, Bool, true, false, Contains, filter, if◌then◌else◌, cases_Bool, false≢true, map-append, append-nil, All-contains, All-append, All-nil, All-cons, filter-append, NodeKind, IsWire, is_wire, Basis, graph_of, NetStarts, StartWire, HasStarts, IsStartWire, is_wire_number, is_pin_number, IsWireAt}
use Rattle.fabric_planes.proofs.Members.{in_map, in_none, map_in}

-- ---- kinds

pub wire_true : (kind : NodeKind) → IsWire kind → is_wire kind ≡ true
wire_true kind w = grind arith

pub true_wire : (kind : NodeKind) → is_wire kind ≡ true → IsWire kind
true_wire kind e = grind arith

pub wire_false : (kind : NodeKind) → (IsWire kind → ⊥) → is_wire kind ≡ false
wire_false kind n = grind arith

-- ---- filtered lists

cases_in : (x y : ℕ) (xs : List ℕ) → Contains (x ∷ xs) y → (x ≡ y) ⊎ Contains xs y
cases_in x y xs h1 = grind arith

further : (x y : ℕ) (xs : List ℕ) → Contains xs y → Contains (x ∷ xs) y
further x y xs c = (suc c.0, omega (arith, c.1), c.2)

filter_in : (p : ℕ → Bool) (xs : List ℕ) (n : ℕ) → p n ≡ true → Contains xs n → Contains (filter p xs) n
filter_in p [] n t c = absurd (in_none n c)
filter_in p (x ∷ xs) n t c = elim (cases_Bool (p x)) [
  | inl e ↦ rw e (elim (cases_in x n xs c) [
    | inl same ↦ (0, omega arith, same)
    | inr rest ↦ further x n (filter p xs) (filter_in p xs n t rest)
  ])
  | inr e ↦ rw e (elim (cases_in x n xs c) [
    | inl same ↦ absurd (false≢true (sym e ∙ (ap p same ∙ t)))
    | inr rest ↦ filter_in p xs n t rest
  ])
]

filter_of : (p : ℕ → Bool) (xs : List ℕ) (n : ℕ) → Contains (filter p xs) n → Contains xs n × (p n ≡ true)
filter_of p [] n c = absurd (in_none n c)
filter_of p (x ∷ xs) n c = elim (cases_Bool (p x)) [
  | inl e ↦ elim (cases_in x n (filter p xs) (rw e at c)) [
    | inl same ↦ ((0, omega arith, same), ap p (sym same) ∙ e)
    | inr rest ↦ (let h = filter_of p xs n rest in (further x n xs h.0, h.1))
  ]
  | inr e ↦ (let h = filter_of p xs n (rw e at c) in (further x n xs h.0, h.1))
]

filter_with : (p : ℕ → Bool) (xs : List ℕ) (n : ℕ) → p n ≡ true → filter p (xs ++ n ∷ []) ≡ filter p xs ++ n ∷ []
filter_with p xs n e = filter-append p xs (n ∷ []) ∙ rw e refl

filter_without : (p : ℕ → Bool) (xs : List ℕ) (n : ℕ) → p n ≡ false → filter p (xs ++ n ∷ []) ≡ filter p xs
filter_without p xs n e = filter-append p xs (n ∷ []) ∙ rw e (append-nil (filter p xs))

module _ (basis : Basis) where
  pub wire_of_start : (wire : StartWire) → IsStartWire basis wire → IsWireAt basis wire.number
  wire_of_start wire s = record { within = s.within; wire = true_wire ((graph_of basis).node wire.number).kind s.kind }

  -- ---- one more start

  pub with_wire : (starts : List ℕ) (number : ℕ) (old new : NetStarts) (wire : StartWire) → HasStarts basis starts old → IsStartWire basis wire → wire.number ≡ number
      → new.pins.items ≡ old.pins.items → new.wires.items ≡ old.wires.items ++ wire ∷ [] → HasStarts basis (starts ++ number ∷ []) new
  with_wire starts number old new wire has s n pe we = grind (arith, map-append, filter_without, filter_with, All-append (IsStartWire basis) old.wires.items (wire ∷ []) has.wires_are (All-cons (IsStartWire basis) wire [] s (All-nil (IsStartWire basis))))

  pub with_pin : (starts : List ℕ) (number : ℕ) (old new : NetStarts) → HasStarts basis starts old → (IsWire ((graph_of basis).node number).kind → ⊥)
      → new.pins.items ≡ old.pins.items ++ number ∷ [] → new.wires.items ≡ old.wires.items → HasStarts basis (starts ++ number ∷ []) new
  with_pin starts number old new has n pe we = grind (arith, filter_with, filter_without)

  -- ---- members

  module _ (starts : List ℕ) (net : NetStarts) (has : HasStarts basis starts net) where
    pub pin_in : (number : ℕ) → Contains starts number → (IsWire ((graph_of basis).node number).kind → ⊥) → Contains net.pins.items number
    pin_in number c n = subst (λ (xs : List ℕ). Contains xs number) (sym has.pins) (filter_in (is_pin_number basis) starts number (rw (wire_false ((graph_of basis).node number).kind n) refl) c)

    pub pin_of : (number : ℕ) → Contains net.pins.items number → Contains starts number × (IsWire ((graph_of basis).node number).kind → ⊥)
    pin_of number c =
        let h = filter_of (is_pin_number basis) starts number (subst (λ (xs : List ℕ). Contains xs number) has.pins c) in
        (h.0, λ w. no_pin ((graph_of basis).node number).kind w h.1)
      where
        no_pin : (kind : NodeKind) → IsWire kind → (if is_wire kind then false else true) ≡ true → ⊥
        no_pin kind w e = false≢true (subst (λ (b : Bool). (if b then false else true) ≡ true) (wire_true kind w) e)

    pub wire_in : (number : ℕ) → Contains starts number → IsWire ((graph_of basis).node number).kind → (wire : StartWire) × Contains net.wires.items wire × (wire.number ≡ number)
    wire_in number c w =
        map_in (λ (wire : StartWire). wire.number) number net.wires.items
        (subst (λ (xs : List ℕ). Contains xs number) (sym has.wires) (filter_in (is_wire_number basis) starts number (wire_true ((graph_of basis).node number).kind w) c))

    pub wire_of : (wire : StartWire) → Contains net.wires.items wire → IsStartWire basis wire
    wire_of wire c = All-contains (IsStartWire basis) net.wires.items wire has.wires_are c

    pub wire_from : (wire : StartWire) → Contains net.wires.items wire → Contains starts wire.number
    wire_from wire c =
        (filter_of (is_wire_number basis) starts wire.number (subst (λ (xs : List ℕ). Contains xs wire.number) has.wires (in_map (λ (wire : StartWire). wire.number) wire net.wires.items c))).0
