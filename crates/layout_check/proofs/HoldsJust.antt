-- A BLE holds just one table, one latch, or one table with one latch.
use Rattle.layout_check.proofs.Prelude.{◌≡◌, ℕ, ◌<◌, true, eqb, List, [], ◌∷◌, Option, None, Some, length, slice_get, sym, ap, refl, ◌∙◌, subst, eq-eqb, inl, inr, arith, Contains, list_all, ForSome, and_parts, eqb-true, false_from_ne_true, Circuit, Latch, LookupTable, distinct_nets, has, LogicElement, is_read_once, holds_latch, holds_table, is_latch, is_pair, is_table, receives, same_truth, read_by_latch, at_member, from_all, from_get, from_has, in_first, to_flat_map, Owner, Table, IsHeld, IsLatchOrPair, AreOwners, owner_of}
use Rattle.layout_check.proofs.HeldParts.{IsBoth, IsLatchOnly, IsTableOnly, from_latch, from_pair, from_table, latch_alone, latch_cases, latch_paired, table_alone, table_cases, table_paired, with_latch, with_table}

here : {X : Type 0} (xs : List X) (k : ℕ) (x : X) → slice_get xs k ≡ Some x → Contains xs x
here xs k x at = (from_get xs k x at).1

within : {X : Type 0} (xs : List X) (k : ℕ) (x : X) → slice_get xs k ≡ Some x → ForSome (Some k) (λ j. j < length xs)
within xs k x at = λ j e. let same : k ≡ j = cc in subst (λ n. n < length xs) same (from_get xs k x at).0

nowhere : {X : Type 0} (xs : List X) → ForSome {T = ℕ} None (λ j. j < length xs)
nowhere xs = λ j e. absurd cc

module _ (circuit : Circuit) (owners : List Owner) (are : AreOwners circuit owners) where
  -- ---- each net has one driver

  same_table : (k j : ℕ) (table other : LookupTable) → slice_get circuit.tables k ≡ Some table → slice_get circuit.tables j ≡ Some other → table.output ≡ other.output → k ≡ j
  same_table k j table other at bt same = grind (arith, from_get)

  same_latch : (k j : ℕ) (latch other : Latch) → slice_get circuit.latches k ≡ Some latch → slice_get circuit.latches j ≡ Some other → latch.output ≡ other.output → k ≡ j
  same_latch k j latch other at bt same = grind (arith, from_get)

  never_both : (k j : ℕ) (table : LookupTable) (latch : Latch) → slice_get circuit.tables k ≡ Some table → slice_get circuit.latches j ≡ Some latch → table.output ≡ latch.output → ⊥
  never_both k j table latch at bt same = grind (arith, from_get)

  module _ (element : LogicElement) where
    -- ---- a table alone

    pub held_table : (k : ℕ) (table : LookupTable) → slice_get circuit.tables k ≡ Some table → is_table element table ≡ true → IsHeld circuit element (Some k) None
    held_table k table at is = record {
      tables = λ j other bt. same_truth (holds_table circuit element other) (eqb k j)
          (λ holds. eq-eqb k j (elim (table_cases circuit element other holds) [
            | inl o ↦ same_table k j table other at bt (sym only.output ∙ o.output)
            | inr (latch, c, o) ↦ (let m = at_member circuit.latches latch c in absurd (never_both k m.0 table latch at m.2 (sym only.output ∙ o.output)))
          ]))
          (λ e. let same : table ≡ other = (let i : k ≡ j = eqb-true k j e in cc) in subst (λ t. holds_table circuit element t ≡ true) same holds_it);
      latches = λ j latch bt. false_from_ne_true (holds_latch circuit element latch) (λ holds. elim (latch_cases circuit element latch holds) [
        | inl o ↦ never_both k j table latch at bt (sym only.output ∙ o.output)
        | inr (other, c, o) ↦ never_both k j table latch at bt (sym only.output ∙ o.output)
      ]);
      some = with_table circuit element table (here circuit.tables k table at) holds_it;
      table_in = within circuit.tables k table at;
      latch_in = nowhere circuit.latches;
    }
      where
        only : IsTableOnly element table
        only = from_table element table is

        holds_it : holds_table circuit element table ≡ true
        holds_it = table_alone circuit element table is

    -- ---- a latch alone

    -- a table that reads its own net isn't read by the latch alone
    own_reader : (table : LookupTable) (latch : Latch) → Contains circuit.tables table → Contains circuit.latches latch → receives element (latch.input ∷ []) ≡ true → IsBoth circuit element table latch → ⊥
    own_reader table latch c d alone o =
        let reads_it : list_all (has element.inputs) (latch.input ∷ []) ≡ true = (and_parts (list_all (has (latch.input ∷ [])) element.inputs) _ (and_parts (eqb (length element.inputs) (length (distinct_nets (latch.input ∷ [])))) _ alone).1).1 in
        let by_table : list_all (has table.inputs) element.inputs ≡ true = (and_parts (list_all (has table.inputs) element.inputs) _ (and_parts (eqb (length element.inputs) (length (distinct_nets table.inputs))) _ o.reads).1).0 in
        let comes = from_all (has element.inputs) (latch.input ∷ []) latch.input reads_it (in_first latch.input []) in
        let read = from_all (has table.inputs) element.inputs latch.input by_table (from_has element.inputs latch.input comes) in
        let f : LookupTable → List ℕ = λ t. t.inputs in
        let elsewhere = to_flat_map f circuit.tables table latch.input c (from_has table.inputs latch.input read) in
        let once : is_read_once circuit latch.input ≡ true = subst (λ net. is_read_once circuit net ≡ true) (sym o.stored) o.once in
        read_by_latch circuit latch.input latch once d refl (record { place = inl elsewhere })

    pub held_latch : (k : ℕ) (latch : Latch) → slice_get circuit.latches k ≡ Some latch → is_latch element latch ≡ true → IsHeld circuit element None (Some k)
    held_latch k latch at is = record {
      tables = λ j table bt. false_from_ne_true (holds_table circuit element table) (λ holds. elim (table_cases circuit element table holds) [
        | inl o ↦ never_both j k table latch bt at (sym o.output ∙ only.output)
        | inr (other, c, o) ↦
            (let m = at_member circuit.latches other c in
            let same : latch ≡ other = (let i : k ≡ m.0 = same_latch k m.0 latch other at m.2 (sym only.output ∙ o.output) in let bt' = m.2 in cc) in
            own_reader table latch (here circuit.tables j table bt) (here circuit.latches k latch at) only.reads (subst (λ l. IsBoth circuit element table l) (sym same) o))
      ]);
      latches = λ j other bt. same_truth (holds_latch circuit element other) (eqb k j)
          (λ holds. eq-eqb k j (elim (latch_cases circuit element other holds) [
            | inl o ↦ same_latch k j latch other at bt (sym only.output ∙ o.output)
            | inr (table, c, o) ↦ same_latch k j latch other at bt (sym only.output ∙ o.output)
          ]))
          (λ e. let same : latch ≡ other = (let i : k ≡ j = eqb-true k j e in cc) in subst (λ l. holds_latch circuit element l ≡ true) same holds_it);
      some = with_latch circuit element latch (here circuit.latches k latch at) holds_it;
      table_in = nowhere circuit.tables;
      latch_in = within circuit.latches k latch at;
    }
      where
        only : IsLatchOnly element latch
        only = from_latch element latch is

        holds_it : holds_latch circuit element latch ≡ true
        holds_it = latch_alone circuit element latch is

    -- ---- a table with a latch

    pub held_pair : (k i : ℕ) (table : LookupTable) (latch : Latch) → slice_get circuit.tables k ≡ Some table → slice_get circuit.latches i ≡ Some latch → is_pair circuit element table latch ≡ true → IsHeld circuit element (Some k) (Some i)
    held_pair k i table latch at lt is = record {
      tables = λ j other bt. same_truth (holds_table circuit element other) (eqb k j)
          (λ holds. eq-eqb k j (elim (table_cases circuit element other holds) [
            | inl o ↦ absurd (never_both j i other latch bt lt (sym o.output ∙ both.output))
            | inr (second, c, o) ↦
                (let m = at_member circuit.latches second c in
                let same : latch ≡ second = (let n : i ≡ m.0 = same_latch i m.0 latch second lt m.2 (sym both.output ∙ o.output) in let bt' = m.2 in cc) in
                same_table k j table other at bt (sym both.stored ∙ ap (λ (l : Latch). l.input) same ∙ o.stored))
          ]))
          (λ e. let same : table ≡ other = (let n : k ≡ j = eqb-true k j e in cc) in subst (λ t. holds_table circuit element t ≡ true) same holds_table_it);
      latches = λ j other bt. same_truth (holds_latch circuit element other) (eqb i j)
          (λ holds. eq-eqb i j (elim (latch_cases circuit element other holds) [
            | inl o ↦ same_latch i j latch other lt bt (sym both.output ∙ o.output)
            | inr (second, c, o) ↦ same_latch i j latch other lt bt (sym both.output ∙ o.output)
          ]))
          (λ e. let same : latch ≡ other = (let n : i ≡ j = eqb-true i j e in cc) in subst (λ l. holds_latch circuit element l ≡ true) same holds_latch_it);
      some = with_latch circuit element latch (here circuit.latches i latch lt) holds_latch_it;
      table_in = within circuit.tables k table at;
      latch_in = within circuit.latches i latch lt;
    }
      where
        both : IsBoth circuit element table latch
        both = from_pair circuit element table latch is

        holds_table_it : holds_table circuit element table ≡ true
        holds_table_it = table_paired circuit element table latch (here circuit.latches i latch lt) is

        holds_latch_it : holds_latch circuit element latch ≡ true
        holds_latch_it = latch_paired circuit element table latch (here circuit.tables k table at) is

    pub held_behind : (k : ℕ) (found : Option ℕ) → IsLatchOrPair circuit element k found → IsHeld circuit element found (Some k)
    held_behind k found h1 = grind (arith, held_latch, held_pair)

-- ---- from what drives the net of a BLE

pub held_as_table : (circuit : Circuit) (owners : List Owner) (element : LogicElement) (net number : ℕ) → AreOwners circuit owners → owner_of owners net ≡ Table number →
    ((table : LookupTable) → slice_get circuit.tables number ≡ Some table → is_table element table ≡ true) → IsHeld circuit element (Some number) None
held_as_table circuit owners element net number are owned is =
    let q = are.of_table net number owned in
    held_table circuit owners are element number q.1 q.2 (is q.1 q.2)
