-- What drives each net, table by table and latch by latch.
use Rattle.layout_check.proofs.Prelude.{◌≡◌, ◌≢◌, ℕ, ◌+◌, ◌<◌, List, Some, get_or, length, map, set, slice_get, sym, ap, ◌∙◌, subst, arith, ◌++◌, Contains, get_or-set_other, get_or-set_same, length-set, get_or_from_slice_get, slice_get-get_or, Circuit, Latch, IsCircuit, LookupTable, pairs_back, pairs_front, from_get, to_map, AreApart, apart_at, never_both, Owner, Nothing, Table, AreOwnersUpTo, owner_of}
use Rattle.layout_check.specs.declared.owners.Owner.TheVariants.{Latch as LatchOwner}

-- ---- what a write changes

written : (owners : List Owner) (net : ℕ) (owner : Owner) → net < length owners → owner_of (set owners net owner) net ≡ owner
written owners net owner small = get_or-set_same owners net owner Nothing small

unwritten : (owners : List Owner) (net other : ℕ) (owner : Owner) → other ≢ net → owner_of (set owners net owner) other ≡ owner_of owners other
unwritten owners net other owner differ = get_or-set_other owners net other owner Nothing differ

module _ (circuit : Circuit) where
  -- one more table
  pub owned_table : (n : ℕ) (owners : List Owner) (table : LookupTable) → slice_get circuit.tables n ≡ Some table → table.output < length owners → owner_of owners table.output ≡ Nothing → AreOwnersUpTo circuit n 0 owners →
      AreOwnersUpTo circuit (n + 1) 0 (set owners table.output (Table n))
  owned_table n owners table at small free so = grind (arith, length-set, written, unwritten)

  -- one more latch
  pub owned_latch : (n : ℕ) (owners : List Owner) (latch : Latch) → slice_get circuit.latches n ≡ Some latch → latch.output < length owners → owner_of owners latch.output ≡ Nothing → AreOwnersUpTo circuit (length circuit.tables) n owners →
      AreOwnersUpTo circuit (length circuit.tables) (n + 1) (set owners latch.output (LatchOwner n))
  owned_latch n owners latch at small free so = grind (arith, length-set, unwritten, written)

  -- ---- a net that isn't free

  module _ (lawful : IsCircuit circuit) where
    abbrev by_tables : List ℕ
    by_tables = map (λ (table : LookupTable). table.output) circuit.tables

    abbrev by_latches : List ℕ
    by_latches = map (λ (latch : Latch). latch.output) circuit.latches

    apart : AreApart (by_tables ++ by_latches)
    apart = pairs_back (λ net other. net ≢ other) circuit.inputs (by_tables ++ by_latches) lawful.driven_once

    -- the outputs of two tables differ, and of two latches
    two_tables : (k j : ℕ) (table other : LookupTable) → k ≢ j → slice_get circuit.tables k ≡ Some table → slice_get circuit.tables j ≡ Some other → table.output ≢ other.output
    two_tables k j table other differ at bt same =
        apart_at (λ (t : LookupTable). t.output) circuit.tables k j table (pairs_front (λ net other. net ≢ other) by_tables by_latches apart) (from_get circuit.tables k table at).0 (from_get circuit.tables j other bt).0 differ
        (ap (λ (t : LookupTable). t.output) (get_or_from_slice_get circuit.tables k table table at) ∙ same ∙ sym (ap (λ (t : LookupTable). t.output) (get_or_from_slice_get circuit.tables j other table bt)))

    two_latches : (k j : ℕ) (latch other : Latch) → k ≢ j → slice_get circuit.latches k ≡ Some latch → slice_get circuit.latches j ≡ Some other → latch.output ≢ other.output
    two_latches k j latch other differ at bt same =
        apart_at (λ (l : Latch). l.output) circuit.latches k j latch (pairs_back (λ net other. net ≢ other) by_tables by_latches apart) (from_get circuit.latches k latch at).0 (from_get circuit.latches j other bt).0 differ
        (ap (λ (l : Latch). l.output) (get_or_from_slice_get circuit.latches k latch latch at) ∙ same ∙ sym (ap (λ (l : Latch). l.output) (get_or_from_slice_get circuit.latches j other latch bt)))

    table_and_latch : (k j : ℕ) (table : LookupTable) (latch : Latch) → slice_get circuit.tables k ≡ Some table → slice_get circuit.latches j ≡ Some latch → table.output ≢ latch.output
    table_and_latch k j table latch at bt same =
        never_both by_tables by_latches table.output apart (to_map (λ (t : LookupTable). t.output) circuit.tables table (from_get circuit.tables k table at).1)
        (subst (λ net. Contains by_latches net) (sym same) (to_map (λ (l : Latch). l.output) circuit.latches latch (from_get circuit.latches j latch bt).1))

    free_table : (n : ℕ) (owners : List Owner) (table : LookupTable) → slice_get circuit.tables n ≡ Some table → AreOwnersUpTo circuit n 0 owners → (owner : Owner) → owner_of owners table.output ≡ owner → owner ≡ Nothing
    free_table n owners table at so owner e = grind (arith, two_tables)

    free_latch : (n : ℕ) (owners : List Owner) (latch : Latch) → slice_get circuit.latches n ≡ Some latch → AreOwnersUpTo circuit (length circuit.tables) n owners → (owner : Owner) → owner_of owners latch.output ≡ owner → owner ≡ Nothing
    free_latch n owners latch at so owner e = grind (arith, table_and_latch, two_latches)

  -- what a table drives isn't free: the circuit isn't lawful
  pub unlawful_table : (n : ℕ) (owners : List Owner) (table : LookupTable) → slice_get circuit.tables n ≡ Some table → AreOwnersUpTo circuit n 0 owners → (table.output < length owners → owner_of owners table.output ≡ Nothing → ⊥) → IsCircuit circuit → ⊥
  unlawful_table n owners table at so taken lawful = grind (arith, from_get, free_table)

  pub unlawful_latch : (n : ℕ) (owners : List Owner) (latch : Latch) → slice_get circuit.latches n ≡ Some latch → AreOwnersUpTo circuit (length circuit.tables) n owners → (latch.output < length owners → owner_of owners latch.output ≡ Nothing → ⊥) →
      IsCircuit circuit → ⊥
  unlawful_latch n owners latch at so taken lawful = grind (arith, from_get, free_latch)

  -- ---- the same over copies of the owners and of the latches

  pub owned_table_told : (n : ℕ) (owners copy : List Owner) (table : LookupTable) → copy ≡ owners → slice_get circuit.tables n ≡ Some table → (table.output < length copy) × (owner_of copy table.output ≡ Nothing) → AreOwnersUpTo circuit n 0 owners →
      AreOwnersUpTo circuit (n + 1) 0 (set owners table.output (Table n))
  owned_table_told n owners copy table same at free so = grind (arith, owned_table n owners table)

  pub unlawful_table_told : (n : ℕ) (owners copy : List Owner) (table : LookupTable) → copy ≡ owners → slice_get circuit.tables n ≡ Some table → AreOwnersUpTo circuit n 0 owners → (table.output < length copy → owner_of copy table.output ≡ Nothing → ⊥) →
      IsCircuit circuit → ⊥
  unlawful_table_told n owners copy table same at so taken = unlawful_table n owners table at so (subst (λ (os : List Owner). table.output < length os → owner_of os table.output ≡ Nothing → ⊥) same taken)

  module _ (n : ℕ) (owners copy : List Owner) (slice : List Latch) (d : Latch) (same : copy ≡ owners) (latches : slice ≡ circuit.latches) (small : n < length slice) where
    abbrev it : Latch
    it = get_or slice n d

    at_slice : slice_get circuit.latches n ≡ Some it
    at_slice = sym (ap (λ (xs : List Latch). slice_get xs n) latches) ∙ slice_get-get_or slice n d small

    pub owned_latch_told : (it.output < length copy) × (owner_of copy it.output ≡ Nothing) → AreOwnersUpTo circuit (length circuit.tables) n owners →
        AreOwnersUpTo circuit (length circuit.tables) (n + 1) (set owners it.output (LatchOwner n))
    owned_latch_told free so = owned_latch n owners it at_slice (subst (λ (os : List Owner). it.output < length os) same free.0) (subst (λ os. owner_of os it.output ≡ Nothing) same free.1) so

    pub unlawful_latch_told : AreOwnersUpTo circuit (length circuit.tables) n owners → (it.output < length copy → owner_of copy it.output ≡ Nothing → ⊥) → IsCircuit circuit → ⊥
    unlawful_latch_told so taken = unlawful_latch n owners it at_slice so (subst (λ (os : List Owner). it.output < length os → owner_of os it.output ≡ Nothing → ⊥) same taken)
