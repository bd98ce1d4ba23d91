-- A BLE with a fault holds nothing of a lawful circuit.
use Rattle.layout_check.proofs.Prelude.{◌≡◌, ◌≢◌, ℕ, true, false, List, [], ◌∷◌, ◌++◌, map, sym, ◌∙◌, subst, arith, Contains, false≢true, Circuit, Latch, IsCircuit, LookupTable, LogicElement, is_read_once, pairs_back, pairs_front, is_same_net, receives, from_get, to_map, AreApart, never_both, same_by, HoldFault, NotDriven, Clocked, WrongClock, Pair, ReadElsewhere, IsHoldFault}
use Rattle.layout_check.specs.declared.fault.HoldFault.TheVariants.{Table, Latch as LatchAlone}
use Rattle.layout_check.proofs.HeldParts.{IsBoth, IsLatchOnly, IsTableOnly, What, a_latch, a_table, both, holds_some, what_it_is}
use Rattle.layout_check.proofs.Receiving.{never_received, read_refuted}

module _ (circuit : Circuit) (lawful : IsCircuit circuit) where
  abbrev by_tables : List ℕ
  by_tables = map (λ (table : LookupTable). table.output) circuit.tables

  abbrev by_latches : List ℕ
  by_latches = map (λ (latch : Latch). latch.output) circuit.latches

  apart : AreApart (by_tables ++ by_latches)
  apart = pairs_back (λ net other. net ≢ other) circuit.inputs (by_tables ++ by_latches) lawful.driven_once

  one_table : (table other : LookupTable) → Contains circuit.tables table → Contains circuit.tables other → table.output ≡ other.output → table ≡ other
  one_table table other c d same = same_by (λ (table : LookupTable). table.output) circuit.tables table other (pairs_front (λ net other. net ≢ other) by_tables by_latches apart) c d same

  one_latch : (latch other : Latch) → Contains circuit.latches latch → Contains circuit.latches other → latch.output ≡ other.output → latch ≡ other
  one_latch latch other c d same = same_by (λ (latch : Latch). latch.output) circuit.latches latch other (pairs_back (λ net other. net ≢ other) by_tables by_latches apart) c d same

  never : (table : LookupTable) (latch : Latch) → Contains circuit.tables table → Contains circuit.latches latch → table.output ≡ latch.output → ⊥
  never table latch c d same =
      never_both by_tables by_latches table.output apart (to_map (λ (table : LookupTable). table.output) circuit.tables table c)
      (subst (λ net. Contains by_latches net) (sym same) (to_map (λ (latch : Latch). latch.output) circuit.latches latch d))

  module _ (element : LogicElement) where
    -- a BLE that drives what a table drives can only be this table
    only_table : (table : LookupTable) → Contains circuit.tables table → element.output ≡ table.output → What circuit element → IsTableOnly element table
    only_table table c out (a_table other d is) = subst (λ t. IsTableOnly element t) (one_table other table d c (sym is.output ∙ out)) is
    only_table table c out (a_latch latch d is) = absurd (never table latch c d (sym out ∙ is.output))
    only_table table c out (both other latch d l is) = absurd (never table latch c l (sym out ∙ is.output))

    -- one that drives what a latch drives can only be this latch, or a table with it
    pub data IsOf (latch : Latch) : Type 0 where
      alone : IsLatchOnly element latch → IsOf latch
      paired : (table : LookupTable) → Contains circuit.tables table → IsBoth circuit element table latch → IsOf latch

    only_latch : (latch : Latch) → Contains circuit.latches latch → element.output ≡ latch.output → What circuit element → IsOf latch
    only_latch latch c out (a_table table d is) = absurd (never table latch d c (sym is.output ∙ out))
    only_latch latch c out (a_latch other d is) = alone (subst (λ l. IsLatchOnly element l) (one_latch other latch d c (sym is.output ∙ out)) is)
    only_latch latch c out (both table other d l is) = paired table d (subst (λ l. IsBoth circuit element table l) (one_latch other latch l c (sym is.output ∙ out)) is)

    wrong_clock : (latch : Latch) → is_same_net element.clock latch.control ≡ false → IsOf latch → ⊥
    wrong_clock latch differ h2 = grind arith

    no_pair : (latch : Latch) → receives element (latch.input ∷ []) ≡ false → ((table : LookupTable) → Contains circuit.tables table → IsBoth circuit element table latch → ⊥) → IsOf latch → ⊥
    no_pair latch fails none h3 = grind arith

    not_driven : ((table : LookupTable) → Contains circuit.tables table → element.output ≡ table.output → ⊥) → ((latch : Latch) → Contains circuit.latches latch → element.output ≡ latch.output → ⊥) → What circuit element → ⊥
    not_driven tables latches (a_table table c is) = tables table c is.output
    not_driven tables latches (a_latch latch c is) = latches latch c is.output
    not_driven tables latches (both table latch c d is) = latches latch d is.output

    by : (fault : HoldFault) → IsHoldFault circuit element fault → What circuit element → ⊥
    by NotDriven (tables, latches) what = not_driven tables latches what
    by (Clocked k) (table, drives, differ) what = let is = only_table table (from_get circuit.tables k table drives.at).1 drives.same what in false≢true (sym differ ∙ is.clock)
    by (Table k fault) (table, drives, said) what = let is = only_table table (from_get circuit.tables k table drives.at).1 drives.same what in read_refuted element table.inputs fault said is.reads
    by (WrongClock k) (latch, drives, differ) what = wrong_clock latch differ (only_latch latch (from_get circuit.latches k latch drives.at).1 drives.same what)
    by (LatchAlone k fault) (latch, drives, none, said) what =
        no_pair latch (never_received element (latch.input ∷ []) fault said) (λ table c is. none table c is.stored) (only_latch latch (from_get circuit.latches k latch drives.at).1 drives.same what)
    by (Pair k j fault) (table, latch, drives, said) what =
        no_pair latch drives.never_alone (λ other c is. let same = one_table other table c (from_get circuit.tables k table drives.at).1 (sym is.stored ∙ drives.stored) in
        read_refuted element table.inputs fault said (subst (λ t. receives element t.inputs ≡ true) same is.reads))
        (only_latch latch (from_get circuit.latches j latch drives.drives.at).1 drives.drives.same what)
    by (ReadElsewhere k j) (table, latch, drives, reads, often) what =
        no_pair latch drives.never_alone (λ other c is. let same = one_table other table c (from_get circuit.tables k table drives.at).1 (sym is.stored ∙ drives.stored) in
        false≢true (sym often ∙ subst (λ t. is_read_once circuit t.output ≡ true) same is.once))
        (only_latch latch (from_get circuit.latches j latch drives.drives.at).1 drives.drives.same what)

    pub holds_nothing : (fault : HoldFault) → IsHoldFault circuit element fault → holds_some circuit element ≡ true → ⊥
    holds_nothing fault said some = by fault said (what_it_is circuit element some)
