-- The BLEs of a circuit: one for each table, with the latch that alone reads it, and one for each
-- latch that is left.
use Rattle.implements.proofs.Prelude.{ltb, ◌≡◌, ◌++◌, true, List, [], ◌∷◌, drop, filter, map, take, sym, inl, inr, ◌⊎◌, subst, Contains, prefix_len, take_while, take-append-drop, Circuit, Latch, LookupTable, LogicElement, bles_of, element_of_latch, element_of_table, in_line_order, latch_after, stands_alone}
use Rattle.implements.proofs.Members.{from_append, from_drop, from_map, from_take, in_cases, in_first, in_later, in_none, to_append_left, to_append_right, to_filter, to_map}

module _ (circuit : Circuit) where
  -- the BLE of a table
  abbrev pub of_table : LookupTable → LogicElement
  of_table table = element_of_table table (latch_after circuit table.output)

  -- the BLE is that of one of the tables, or one of the latches
  abbrev pub IsOneOf : List LookupTable → List Latch → LogicElement → Type 0
  IsOneOf tables latches element =
      ((table : LookupTable) × Contains tables table × (of_table table ≡ element)) ⊎ ((latch : Latch) × Contains latches latch × (element_of_latch latch ≡ element))

  from_line : (tables : List LookupTable) (latches : List Latch) (element : LogicElement) → Contains (in_line_order circuit tables latches) element → IsOneOf tables latches element
  from_line [] latches element c = inr (from_map element_of_latch latches element c)
  from_line (table ∷ tables) latches element c =
      let ahead = take_while (λ (latch : Latch). ltb latch.line table.line) latches in
      let count = prefix_len (λ (latch : Latch). ltb latch.line table.line) latches in
      let rest = in_line_order circuit tables (drop count latches) in
      elim (from_append (map element_of_latch ahead) (of_table table ∷ rest) element c) [
        | inl d ↦ (let q = from_map element_of_latch ahead element d in inr (q.0, from_take count latches q.0 q.1, q.2))
        | inr d ↦ elim (in_cases (of_table table) element rest d) [
          | inl e ↦ inl (table, in_first table tables, e)
          | inr later ↦ elim (from_line tables (drop count latches) element later) [
            | inl t ↦ inl (t.0, in_later table t.0 tables t.1, t.2)
            | inr l ↦ inr (l.0, from_drop count latches l.0 l.1, l.2)
          ]
        ]
      ]

  table_in_line : (tables : List LookupTable) (latches : List Latch) (table : LookupTable) → Contains tables table → Contains (in_line_order circuit tables latches) (of_table table)
  table_in_line [] latches table c = absurd (in_none table c)
  table_in_line (first ∷ tables) latches table c =
      let ahead = take_while (λ (latch : Latch). ltb latch.line first.line) latches in
      let count = prefix_len (λ (latch : Latch). ltb latch.line first.line) latches in
      let rest = in_line_order circuit tables (drop count latches) in
      to_append_right (map element_of_latch ahead) (of_table first ∷ rest) (of_table table) (elim (in_cases first table tables c) [
        | inl e ↦ subst (λ (t : LookupTable). Contains (of_table first ∷ rest) (of_table t)) e (in_first (of_table first) rest)
        | inr d ↦ in_later (of_table first) (of_table table) rest (table_in_line tables (drop count latches) table d)
      ])

  latch_in_line : (tables : List LookupTable) (latches : List Latch) (latch : Latch) → Contains latches latch → Contains (in_line_order circuit tables latches) (element_of_latch latch)
  latch_in_line [] latches latch c = to_map element_of_latch latches latch c
  latch_in_line (first ∷ tables) latches latch c =
      let ahead = take_while (λ (latch : Latch). ltb latch.line first.line) latches in
      let count = prefix_len (λ (latch : Latch). ltb latch.line first.line) latches in
      let rest = in_line_order circuit tables (drop count latches) in
      let both : take count latches ++ drop count latches ≡ latches = take-append-drop count latches in
      elim (from_append (take count latches) (drop count latches) latch (subst (λ (l : List Latch). Contains l latch) (sym both) c)) [
        | inl d ↦ to_append_left (map element_of_latch ahead) (of_table first ∷ rest) (element_of_latch latch) (to_map element_of_latch ahead latch d)
        | inr d ↦ to_append_right (map element_of_latch ahead) (of_table first ∷ rest) (element_of_latch latch) (in_later (of_table first) (element_of_latch latch) rest (latch_in_line tables (drop count latches) latch d))
      ]

  -- the latches that are a BLE alone
  abbrev pub alone : List Latch
  alone = filter (stands_alone circuit) circuit.latches

  pub from_bles : (element : LogicElement) → Contains (bles_of circuit) element → IsOneOf circuit.tables alone element
  unfolding bles_of
  from_bles element c = from_line circuit.tables alone element c

  pub table_in_bles : (table : LookupTable) → Contains circuit.tables table → Contains (bles_of circuit) (of_table table)
  unfolding bles_of
  table_in_bles table c = table_in_line circuit.tables alone table c

  pub latch_in_bles : (latch : Latch) → Contains circuit.latches latch → stands_alone circuit latch ≡ true → Contains (bles_of circuit) (element_of_latch latch)
  unfolding bles_of
  latch_in_bles latch c is = latch_in_line circuit.tables alone latch (to_filter (stands_alone circuit) circuit.latches latch c is)
