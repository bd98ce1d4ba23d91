-- The classes of wires, place by place.
use Rattle.fabric_planes.proofs.Prelude.{◌≡◌, ℕ, ◌+◌, ◌-◌, ◌*◌, ◌<◌, ◌≤◌, List, Some, length, set, true, sym, ap, ◌∙◌, subst, inl, inr, arith, slice_get, slice_index, cases_eq, cases_lt, get_or-set_same, get_or-set_other, length-set, mul-le, slice_get_within, few_pins, Node, IsWire, is_node, node_at_offset, Basis, IsBasis, graph_of, make_node, few_nodes, Steps, row_of, seen_from, place_of, place_count, stride_of, offset_of, AreSteps, AreStepsBelow, KeepsRows, NO_CLASS, most_rows, step_view, AreFirsts, IsFirstAt, NO_WIRE}
use Rattle.fabric_planes.proofs.Alike.{columns_alike, node_moved, place_moved, same_row}
use Rattle.fabric_planes.proofs.Consecutive.{wire_low, wires_order}
use Rattle.fabric_planes.proofs.Strips.{lawful, offset_few}

module _ {basis : Basis} (is : IsBasis basis) where
  abbrev node : ℕ → Node
  node = (graph_of basis).node

  pub first_low : (place first : ℕ) → IsFirstAt basis place first → place < place_count basis
  first_low place first at = subst (λ (p : ℕ). p < place_count basis) at.is_at (wire_low is first at.within at.first.wire)

  few_places : stride_of basis ≤ 638
  few_places = grind (arith, few_pins)

  -- the rows are few
  pub rows_few : (count : ℕ) → count ≤ place_count basis → most_rows basis count < NO_CLASS
  rows_few count low = grind (arith, few_places)

  -- the place of a wire has a class
  pub class_some : (steps : Steps) → AreSteps basis steps → (place first : ℕ) → IsFirstAt basis place first → slice_index steps.classes.items place ≡ NO_CLASS → ⊥
  class_some steps are place first at none =
      omega (arith, slice_get_within steps.rows (slice_index steps.classes.items place) _ (are.wires place first (first_low place first at) at), are.few, rows_few (place_count basis) (omega arith), none)

  -- one wire is the first of its place
  first_same : (place i j : ℕ) → IsFirstAt basis place i → IsFirstAt basis place j → i ≡ j
  first_same place i j a b = grind (arith, wires_order)

  -- ---- one place after another

  -- no wire is at the place
  pub class_skipped : (count : ℕ) (steps : Steps) → AreStepsBelow basis count steps → ((first : ℕ) → IsFirstAt basis count first → ⊥) → AreStepsBelow basis (count + 1) steps
  class_skipped count steps are none = grind arith

  -- the class of a wire is set
  pub class_set : (place first class : ℕ) (old new : Steps) → AreStepsBelow basis place old → IsFirstAt basis place first → new.classes.items ≡ set old.classes.items place class → KeepsRows old.rows new.rows → length new.rows ≤ most_rows basis (place + 1)
      → slice_get new.rows class ≡ Some (row_of basis (step_view (node first)) first) → AreStepsBelow basis (place + 1) new
  class_set place first class old new are at items kept few row = record {
    long = ap length items ∙ (length-set old.classes.items place class ∙ are.long);
    few = few;
    wires = λ p i l found. elim (cases_eq p place) [
      | inl same ↦
          let own : i ≡ first = first_same place i first (subst (λ (q : ℕ). IsFirstAt basis q i) same found) at in
          let here : slice_index new.classes.items p ≡ class =
          ap (slice_index new.classes.items) same ∙ (ap (λ (xs : List ℕ). slice_index xs place) items ∙ get_or-set_same old.classes.items place class 0 (omega (arith, first_low place first at, are.long))) in
          ap (slice_get new.rows) here ∙ (row ∙ ap (λ (k : ℕ). Some (row_of basis (step_view (node k)) k)) (sym own))
      | inr other ↦
          let there : slice_index new.classes.items p ≡ slice_index old.classes.items p = ap (λ (xs : List ℕ). slice_index xs p) items ∙ get_or-set_other old.classes.items place p class 0 other in
          ap (slice_get new.rows) there ∙ kept (slice_index old.classes.items p) _ (are.wires p i (omega (arith, l, other)) found)
    ];
    others = λ p b nothing. elim (cases_eq p place) [
      | inl same ↦ absurd (nothing first (subst (λ (q : ℕ). IsFirstAt basis q first) (sym same) at))
      | inr other ↦ ap (λ (xs : List ℕ). slice_index xs p) items ∙ (get_or-set_other old.classes.items place p class 0 other ∙ are.others p b nothing)
    ];
  }

  -- ---- the column before

  abbrev row : ℕ → List ℕ
  row first = row_of basis (step_view (node first)) first

  pub record IsBefore (place first : ℕ) : Type 0 where
    pub before : ℕ
    pub at : IsFirstAt basis (place - stride_of basis) before
    pub far : stride_of basis ≤ place
    pub same : row before ≡ row first

  pub column_before : (place first : ℕ) → IsFirstAt basis place first → 2 < (node first).x → (node first).x < basis.strip.width → IsBefore place first
  column_before place first at some few =
      let v = node first in
      let p : Node = make_node (v.x - 1) v.kind v.y v.n in
      let x : v.x - 1 + 1 ≡ v.x = omega (arith, some) in
      let next : node_at_offset 1 p ≡ v = ap (λ (x : ℕ). make_node x v.kind v.y v.n) x in
      let there : is_node basis.arch basis.strip p ≡ true =
      sym (node_moved is 1 p (omega (arith, some)) (omega (arith, some, few))) ∙ (ap (is_node basis.arch basis.strip) next ∙ (lawful is).nodes first at.within) in
      let found = (lawful is).all p there in
      let i = found.0 in
      let is_p : node i ≡ p = found.2 in
      let wire : IsWire (node i).kind = subst (λ (v : Node). IsWire v.kind) (sym is_p) at.first.wire in
      let to : v ≡ node_at_offset 1 (node i) = sym next ∙ ap (node_at_offset 1) (sym is_p) in
      let swap : node_at_offset 2 (node_at_offset 1 (node i)) ≡ node_at_offset 1 (node_at_offset 2 (node i)) =
      let e : (node i).x + 1 + 2 ≡ (node i).x + 2 + 1 = omega arith in ap (λ (x : ℕ). make_node x (node i).kind (node i).y (node i).n) e in
      let apart : place ≡ place_of basis (node i) + 1 * stride_of basis = sym at.is_at ∙ (ap (place_of basis) to ∙ place_moved is 1 (node i)) in
      let column : (node i).x ≡ v.x - 1 = ap (λ (v : Node). v.x) is_p in
      record {
        before = i;
        at = record { within = found.1; first = record { wire = wire; first = ap (λ (v : Node). v.n) is_p ∙ at.first.first }; is_at = omega (arith, apart) };
        far = omega (arith, apart);
        same = same_row is (step_view (node i)) (step_view v) i first found.1 at.within
            (columns_alike is (seen_from (node_at_offset 2 (node i))) (seen_from (node_at_offset 2 v)) 0 i first 1 found.1 wire to (ap (node_at_offset 2) to ∙ swap) (inr (omega (arith, column, some), omega (arith, column, some, few))));
      }

  -- the class of the column before is taken
  pub class_copied : (place first class : ℕ) (old new : Steps) → AreStepsBelow basis place old → IsFirstAt basis place first → IsBefore place first → class ≡ slice_index old.classes.items (place - stride_of basis)
      → new.classes.items ≡ set old.classes.items place class → new.rows ≡ old.rows → AreStepsBelow basis (place + 1) new
  class_copied place first class old new are at b e items rows = grind (arith, class_set place first class old new are)

  -- a row more is still few in the first columns and in the last one
  pub row_more : (place first rows more : ℕ) → IsFirstAt basis place first → rows ≤ most_rows basis place → more ≤ rows + 1 → (2 < (node first).x → (node first).x < basis.strip.width → ⊥) → more ≤ most_rows basis (place + 1)
  row_more place first rows more at few one outer =
      let v = node first in
      let o : ℕ = offset_of basis v.kind v in
      let low : o < stride_of basis = offset_few is first at.within in
      elim (cases_lt 2 v.x) [
        | inr left ↦
            let m : (v.x + 3) * stride_of basis ≤ 5 * stride_of basis = mul-le (v.x + 3) (stride_of basis) 5 (stride_of basis) (omega (arith, left)) (omega arith) in
            let e : (v.x + 3) * stride_of basis ≡ (v.x + 2) * stride_of basis + stride_of basis = grind arith in
            omega (arith, m, e, low, few, one, at.is_at)
        | inl some ↦ elim (cases_lt v.x basis.strip.width) [
          | inl inner ↦ absurd (outer some inner)
          | inr last ↦
              let m : (basis.strip.width + 2) * stride_of basis ≤ (v.x + 2) * stride_of basis = mul-le (basis.strip.width + 2) (stride_of basis) (v.x + 2) (stride_of basis) (omega (arith, last)) (omega arith) in
              omega (arith, m, few, one, at.is_at)
        ]
      ]

  -- the table of the first wires has none for the place
  pub none_first : (firsts : List ℕ) → AreFirsts basis firsts → (place : ℕ) → slice_index firsts place ≡ NO_WIRE → (first : ℕ) → IsFirstAt basis place first → ⊥
  none_first firsts told place none first at = omega (arith, told.wires place first at.within at, at.within, few_nodes basis is, none)
