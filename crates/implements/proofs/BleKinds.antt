-- Each BLE of a circuit is a table, a latch, or both.
use Rattle.implements.proofs.Prelude.{◌≡◌, ℕ, Bool, true, ◌&&◌, ◌||◌, ◌==◌, List, [], ◌∷◌, Option, Some, None, ap, refl, ◌∙◌, inl, inr, subst, arith, Contains, find, list_all, list_any, Circuit, Latch, LookupTable, distinct_nets, has, has-distinct, LogicElement, bles_of, element_of_latch, element_of_table, is_read_once, latch_after, stands_alone, holds_latch, holds_table, is_latch, is_pair, is_table, receives}
use Rattle.implements.proofs.BleMembers.{from_bles}
use Rattle.implements.proofs.Members.{from_filter, in_first, in_later, to_any, to_has}

all_has : (xs ys : List ℕ) → ((x : ℕ) → Contains xs x → has ys x ≡ true) → list_all (has ys) xs ≡ true
all_has [] ys h = refl
all_has (x ∷ xs) ys h =
    let first = h x (in_first x xs) in
    let rest = all_has xs ys (λ y c. h y (in_later x y xs c)) in
    ap (λ (b : Bool). b && list_all (has ys) xs) first ∙ rest

reads_distinct : (nets : List ℕ) (output : ℕ) (clock : Option ℕ) → receives (record { inputs = distinct_nets nets; output = output; clock = clock }) nets ≡ true
reads_distinct nets output clock = grind (arith, all_has, has-distinct, to_has)

found_by : {X : Type 0} (test : X → Bool) (xs : List X) (x : X) → find test xs ≡ Some x → Contains xs x × (test x ≡ true)
found_by test [] x h = absurd cc
found_by {X} test (y ∷ xs) x h = grind (arith, in_later, found_by test xs x)

module _ (circuit : Circuit) where
  abbrev pub is_some_of : LogicElement → Bool
  is_some_of element = list_any (holds_table circuit element) circuit.tables || list_any (holds_latch circuit element) circuit.latches

  -- a latch alone is that latch
  pub latch_held : (latch : Latch) → is_latch (element_of_latch latch) latch ≡ true
  latch_held latch = grind arith

  -- a table alone is that table
  pub table_held : (table : LookupTable) → is_table (element_of_table table None) table ≡ true
  table_held table = grind (arith, reads_distinct table.inputs table.output None)

  -- the latch that is found after a table
  pub behind_is : (net : ℕ) (latch : Latch) → latch_after circuit net ≡ Some latch → (is_read_once circuit net ≡ true) × (Contains circuit.latches latch × ((latch.input == net) ≡ true))
  behind_is net latch is = grind (arith, found_by)

  -- a table with the latch that alone reads it is both
  pub pair_held : (table : LookupTable) (latch : Latch) → latch_after circuit table.output ≡ Some latch → is_pair circuit (element_of_table table (Some latch)) table latch ≡ true
  pair_held table latch is = grind (arith, behind_is, reads_distinct table.inputs latch.output latch.control)

  latch_is : (latch : Latch) → Contains circuit.latches latch → is_some_of (element_of_latch latch) ≡ true
  latch_is latch c =
      let element = element_of_latch latch in
      let holds : holds_latch circuit element latch ≡ true = ap (λ (b : Bool). b || list_any (λ table. is_pair circuit element table latch) circuit.tables) (latch_held latch) in
      let any = to_any (holds_latch circuit element) circuit.latches latch c holds in
      grind (arith, any)

  -- a table's BLE holds it
  pub table_holds : (table : LookupTable) → holds_table circuit (element_of_table table (latch_after circuit table.output)) table ≡ true
  table_holds table = by (latch_after circuit table.output) refl
    where
      by : (o : Option Latch) → latch_after circuit table.output ≡ o → holds_table circuit (element_of_table table o) table ≡ true
      by None is = ap (λ (b : Bool). b || list_any (is_pair circuit (element_of_table table None) table) circuit.latches) (table_held table)
      by (Some latch) is =
          let q = behind_is table.output latch is in
          let some = to_any (is_pair circuit (element_of_table table (Some latch)) table) circuit.latches latch q.1.0 (pair_held table latch is) in
          grind (arith, some)

  table_is : (table : LookupTable) → Contains circuit.tables table → is_some_of (element_of_table table (latch_after circuit table.output)) ≡ true
  table_is table c =
      let element = element_of_table table (latch_after circuit table.output) in
      let any = to_any (holds_table circuit element) circuit.tables table c (table_holds table) in
      ap (λ (b : Bool). b || list_any (holds_latch circuit element) circuit.latches) any

  pub ble_is : (element : LogicElement) → Contains (bles_of circuit) element → is_some_of element ≡ true
  ble_is element c = elim (from_bles circuit element c) [
    | inl t ↦ subst (λ e. is_some_of e ≡ true) t.2 (table_is t.0 t.1)
    | inr l ↦ subst (λ e. is_some_of e ≡ true) l.2 (latch_is l.0 (from_filter (stands_alone circuit) circuit.latches l.0 l.1).0)
  ]
