-- All blocks have their input pins in one order, so one list has the sides of those of all blocks.
use Rattle.fabric_planes.proofs.Prelude.{◌≡◌, ℕ, zero, suc, ◌+◌, ◌-◌, ◌<◌, ◌≤◌, List, [], ◌∷◌, ◌++◌, length, length-append, refl, sym, ap, ◌∙◌, subst, inl, inr, arith, true, nat_le, slice_index_or, and_from, and_parts, cases_lt, le-leb, leb-true, or_cases, get_or_append_left, get_or_push, Sides, Strip, Node, Ipin, is_block_number, is_block_row, is_node, is_pad_row, sides_at, AreNumbersAt, Basis, IsBasis, graph_of, make_node, rank_of, AreInputSides}
use Rattle.fabric_planes.proofs.Strips.{before_number, lawful, node_column}

-- ---- two rising lists of the same numbers

module _ (f g : ℕ → ℕ) (a b : ℕ) (f_rises : (i j : ℕ) → i < j → j < a → f i < f j) (g_rises : (i j : ℕ) → i < j → j < b → g i < g j)
    (in_g : (i : ℕ) → i < a → (j : ℕ) × (j < b) × (g j ≡ f i)) (in_f : (j : ℕ) → j < b → (i : ℕ) × (i < a) × (f i ≡ g j)) where
  -- the number at this index, if those before it are the same
  same_next : (k : ℕ) → k < a → ((i : ℕ) → i < k → i < a → (i < b) × (f i ≡ g i)) → (k < b) × (f k ≡ g k)
  same_next k ka before =
      let j = in_g k ka in
      let from : k ≤ j.0 = elim (cases_lt j.0 k) [
        | inl less ↦ absurd (omega (arith, f_rises j.0 k less ka, (before j.0 less (omega (arith, less, ka))).1, j.2))
        | inr more ↦ omega (arith, more)
      ] in
      let kb : k < b = omega (arith, from, j.1) in
      let i = in_f k kb in
      let on : k ≤ i.0 = elim (cases_lt i.0 k) [
        | inl less ↦ absurd (omega (arith, g_rises i.0 k less kb, (before i.0 less i.1).1, i.2))
        | inr more ↦ omega (arith, more)
      ] in
      let up : f k ≤ f i.0 = elim (cases_lt k i.0) [
        | inl less ↦ omega (arith, f_rises k i.0 less i.1)
        | inr more ↦ (let same : k ≡ i.0 = omega (arith, on, more) in omega (arith, ap f same))
      ] in
      let down : g k ≤ g j.0 = elim (cases_lt k j.0) [
        | inl less ↦ omega (arith, g_rises k j.0 less j.1)
        | inr more ↦ (let same : k ≡ j.0 = omega (arith, from, more) in omega (arith, ap g same))
      ] in
      (kb, omega (arith, up, down, i.2, j.2))

  same_below : (n k : ℕ) → k < n → k < a → (k < b) × (f k ≡ g k)
  same_below zero k l ka = absurd (omega (arith, l))
  same_below (suc n) k l ka = same_next k ka (λ i less ia. same_below n i (omega (arith, l, less)) ia)

  pub same_listing : (k : ℕ) → k < a → (k < b) × (f k ≡ g k)
  same_listing k ka = same_below (k + 1) k (omega arith) ka

-- ---- the input pins of a block

-- a row of blocks is none of pads
no_pad_row : (strip : Strip) (y : ℕ) → is_block_row strip y ≡ true → is_pad_row strip y ≡ true → ⊥
no_pad_row strip y block pad = grind arith

-- a block's input pin has the number of an input pin
input_number : (basis : Basis) (node : Node) (y : ℕ) → node.kind ≡ Ipin → node.y ≡ y → is_block_row basis.strip y ≡ true → is_node basis.arch basis.strip node ≡ true → is_block_number basis.arch Ipin node.n ≡ true
input_number basis node y kind at block there = grind (arith, or_cases, no_pad_row, and_parts)

-- each block has an input pin of that number
input_there : (basis : Basis) (x y n : ℕ) → 1 ≤ x → x ≤ basis.strip.width → is_block_row basis.strip y ≡ true → is_block_number basis.arch Ipin n ≡ true → is_node basis.arch basis.strip (make_node x Ipin y n) ≡ true
input_there basis x y n from to block number = grind arith

-- an input pin is in a column of blocks
input_column : (basis : Basis) (node : Node) → node.kind ≡ Ipin → is_node basis.arch basis.strip node ≡ true → 1 ≤ node.x
input_column basis node kind there = grind arith

-- the sides of a block's pin depend on its number alone
sides_by_number : (basis : Basis) (a b : Node) → is_block_row basis.strip a.y ≡ true → is_block_row basis.strip b.y ≡ true → a.n ≡ b.n → sides_at basis.arch basis.strip a ≡ sides_at basis.arch basis.strip b
sides_by_number basis a b block other same = grind (arith, no_pad_row)

-- ---- from one block to all

-- the list has the sides of the first nodes from a number on
pub record AreSidesUpTo (basis : Basis) (first number : ℕ) (list : List Sides) : Type 0 where
  pub long : number ≡ first + length list
  pub each : (index : ℕ) (d : Sides) → index < length list → slice_index_or list index d ≡ sides_at basis.arch basis.strip ((graph_of basis).node (first + index))

pub none_up_to : (basis : Basis) (first : ℕ) → AreSidesUpTo basis first first []
none_up_to basis first = grind arith

pub one_more : (basis : Basis) (first number : ℕ) (list : List Sides) (sides : Sides) → AreSidesUpTo basis first number list → sides ≡ sides_at basis.arch basis.strip ((graph_of basis).node number) → AreSidesUpTo basis first (number + 1) (list ++ sides ∷ [])
one_more basis first number list sides are is = record {
  long = omega (arith, length-append list (sides ∷ []), are.long);
  each = λ index d within. elim (cases_lt index (length list)) [
    | inl before ↦ get_or_append_left list (sides ∷ []) d index before ∙ are.each index d before
    | inr last ↦
        let here : index ≡ length list = omega (arith, last, within, length-append list (sides ∷ [])) in
        get_or_push list sides d index (sym here) ∙ (is ∙ ap (λ (k : ℕ). sides_at basis.arch basis.strip ((graph_of basis).node k)) (omega (arith, are.long, here)))
  ];
}

module _ {basis : Basis} (is : IsBasis basis) where
  abbrev node : ℕ → Node
  node = (graph_of basis).node

  -- the input pins of a block have rising numbers
  rises : (x y first end : ℕ) → AreNumbersAt (graph_of basis) Ipin x y first end → (i j : ℕ) → i < j → j < end - first → (node (first + i)).n < (node (first + j)).n
  rises x y first end at i j l b =
      let from = at.sound (first + i) (omega arith) (omega (arith, l, b)) in
      let to = at.sound (first + j) (omega arith) (omega (arith, b)) in
      before_number (node (first + i)) (node (first + j)) (from.x ∙ sym to.x) (ap rank_of (from.kind ∙ sym to.kind)) (from.y ∙ sym to.y)
      ((lawful is).ordered (first + i) (first + j) (omega (arith, l)) (omega (arith, b, at.within)))

  -- another block has a pin of each number
  in_other : (x y first end u v begin stop : ℕ) → is_block_row basis.strip y ≡ true → is_block_row basis.strip v ≡ true → 1 ≤ u → u ≤ basis.strip.width
      → AreNumbersAt (graph_of basis) Ipin x y first end → AreNumbersAt (graph_of basis) Ipin u v begin stop → (i : ℕ) → i < end - first → (j : ℕ) × (j < stop - begin) × ((node (begin + j)).n ≡ (node (first + i)).n)
  in_other x y first end u v begin stop block other from to at there i l =
      let pin = at.sound (first + i) (omega arith) (omega (arith, l)) in
      let is_there = (lawful is).nodes (first + i) (omega (arith, l, at.within)) in
      let n : ℕ = (node (first + i)).n in
      let number = input_number basis (node (first + i)) y pin.kind pin.y block is_there in
      let found = (lawful is).all (make_node u Ipin v n) (input_there basis u v n from to other number) in
      let range = there.all found.0 found.1 (record { x = ap (λ (w : Node). w.x) found.2; kind = ap (λ (w : Node). w.kind) found.2; y = ap (λ (w : Node). w.y) found.2 }) in
      let same : begin + (found.0 - begin) ≡ found.0 = omega (arith, range.0) in
      (found.0 - begin, omega (arith, range.0, range.1), ap (λ (k : ℕ). (node k).n) same ∙ ap (λ (w : Node). w.n) found.2)

  pub all_blocks : (first end number : ℕ) (list : List Sides) → AreNumbersAt (graph_of basis) Ipin 1 1 first end → AreSidesUpTo basis first number list → end ≤ number → AreInputSides basis list
  all_blocks first end number list one are past = λ x y begin stop index block at within.
      let pin = at.sound (begin + index) (omega arith) within in
      let is_there = (lawful is).nodes (begin + index) (omega (arith, within, at.within)) in
      let from : 1 ≤ x = omega (arith, input_column basis (node (begin + index)) pin.kind is_there, pin.x) in
      let to : x ≤ basis.strip.width = omega (arith, node_column basis (node (begin + index)) is_there, pin.x) in
      let rows = and_parts (nat_le 1 y) (nat_le y basis.strip.rows) block in
      let some : 1 ≤ basis.strip.rows = omega (arith, leb-true 1 y rows.0, leb-true y basis.strip.rows rows.1) in
      let first_row : is_block_row basis.strip 1 ≡ true = and_from (nat_le 1 1) (nat_le 1 basis.strip.rows) refl (le-leb 1 basis.strip.rows some) in
      let same = same_listing (λ i. (node (begin + i)).n) (λ i. (node (first + i)).n) (stop - begin) (end - first)
      (rises x y begin stop at) (rises 1 1 first end one)
      (in_other x y begin stop 1 1 first end block first_row (omega arith) (omega (arith, from, to)) at one)
      (in_other 1 1 first end x y begin stop first_row block from to one at) index (omega (arith, within)) in
      let low : index < length list = omega (arith, same.0, are.long, past) in
      let other = one.sound (first + index) (omega arith) (omega (arith, same.0)) in
      record {
        within = low;
        sides = λ d. are.each index d low ∙ sides_by_number basis (node (first + index)) (node (begin + index))
            (subst (λ (k : ℕ). is_block_row basis.strip k ≡ true) (sym other.y) first_row) (subst (λ (k : ℕ). is_block_row basis.strip k ≡ true) (sym pin.y) block) (sym same.1);
      }
