-- What a BLE is that holds a table or a latch.
use Rattle.layout_check.proofs.Prelude.{◌≡◌, Bool, true, ◌&&◌, ◌||◌, [], ◌∷◌, None, ap, ◌∙◌, inl, inr, ◌⊎◌, arith, Contains, list_any, and_parts, Circuit, Latch, LookupTable, LogicElement, is_read_once, holds_latch, holds_table, is_latch, is_pair, is_same_net, is_table, receives, from_any, to_any}
use Rattle.layout_check.proofs.OneDriver.{or_cases, or_left, or_right}

pub record IsTableOnly (element : LogicElement) (table : LookupTable) : Type 0 where
  pub output : element.output ≡ table.output
  pub reads : receives element table.inputs ≡ true
  pub clock : is_same_net element.clock None ≡ true

pub record IsLatchOnly (element : LogicElement) (latch : Latch) : Type 0 where
  pub output : element.output ≡ latch.output
  pub reads : receives element (latch.input ∷ []) ≡ true
  pub clock : is_same_net element.clock latch.control ≡ true

pub record IsBoth (circuit : Circuit) (element : LogicElement) (table : LookupTable) (latch : Latch) : Type 0 where
  pub stored : latch.input ≡ table.output
  pub once : is_read_once circuit table.output ≡ true
  pub output : element.output ≡ latch.output
  pub reads : receives element table.inputs ≡ true
  pub clock : is_same_net element.clock latch.control ≡ true

-- ---- from the tests, and to them

pub from_table : (element : LogicElement) (table : LookupTable) → is_table element table ≡ true → IsTableOnly element table
from_table element table is = grind arith

pub from_latch : (element : LogicElement) (latch : Latch) → is_latch element latch ≡ true → IsLatchOnly element latch
from_latch element latch is = grind arith

pub from_pair : (circuit : Circuit) (element : LogicElement) (table : LookupTable) (latch : Latch) → is_pair circuit element table latch ≡ true → IsBoth circuit element table latch
from_pair circuit element table latch is = grind (arith, and_parts)

and_true : (a b : Bool) → a ≡ true → b ≡ true → (a && b) ≡ true
and_true a b first second = ap (λ x. x && b) first ∙ second

pub to_pair : (circuit : Circuit) (element : LogicElement) (table : LookupTable) (latch : Latch) → IsBoth circuit element table latch → is_pair circuit element table latch ≡ true
to_pair circuit element table latch is = grind arith

-- ---- what holds a table or a latch

module _ (circuit : Circuit) (element : LogicElement) where
  -- it is the table, or the table with a latch
  pub table_cases : (table : LookupTable) → holds_table circuit element table ≡ true → IsTableOnly element table ⊎ ((latch : Latch) × Contains circuit.latches latch × IsBoth circuit element table latch)
  table_cases table holds = grind (arith, from_any, from_pair)

  -- it is the latch, or a table with the latch
  pub latch_cases : (latch : Latch) → holds_latch circuit element latch ≡ true → IsLatchOnly element latch ⊎ ((table : LookupTable) × Contains circuit.tables table × IsBoth circuit element table latch)
  latch_cases latch holds = grind (arith, or_cases, from_latch, from_any, from_pair)

  pub table_alone : (table : LookupTable) → is_table element table ≡ true → holds_table circuit element table ≡ true
  table_alone table is = or_left (is_table element table) (list_any (is_pair circuit element table) circuit.latches) is

  pub latch_alone : (latch : Latch) → is_latch element latch ≡ true → holds_latch circuit element latch ≡ true
  latch_alone latch is = or_left (is_latch element latch) (list_any (λ table. is_pair circuit element table latch) circuit.tables) is

  pub table_paired : (table : LookupTable) (latch : Latch) → Contains circuit.latches latch → is_pair circuit element table latch ≡ true → holds_table circuit element table ≡ true
  table_paired table latch c is = or_right (is_table element table) (list_any (is_pair circuit element table) circuit.latches) (to_any (is_pair circuit element table) circuit.latches latch c is)

  pub latch_paired : (table : LookupTable) (latch : Latch) → Contains circuit.tables table → is_pair circuit element table latch ≡ true → holds_latch circuit element latch ≡ true
  latch_paired table latch c is = search (or_right, to_any, arith)

  abbrev pub holds_some : Bool
  holds_some = list_any (holds_table circuit element) circuit.tables || list_any (holds_latch circuit element) circuit.latches

  pub with_table : (table : LookupTable) → Contains circuit.tables table → holds_table circuit element table ≡ true → holds_some ≡ true
  with_table table c holds = or_left (list_any (holds_table circuit element) circuit.tables) (list_any (holds_latch circuit element) circuit.latches) (to_any (holds_table circuit element) circuit.tables table c holds)

  pub with_latch : (latch : Latch) → Contains circuit.latches latch → holds_latch circuit element latch ≡ true → holds_some ≡ true
  with_latch latch c holds = or_right (list_any (holds_table circuit element) circuit.tables) (list_any (holds_latch circuit element) circuit.latches) (to_any (holds_latch circuit element) circuit.latches latch c holds)

  -- what a BLE is that holds something
  pub data What : Type 0 where
    a_table : (table : LookupTable) → Contains circuit.tables table → IsTableOnly element table → What
    a_latch : (latch : Latch) → Contains circuit.latches latch → IsLatchOnly element latch → What
    both : (table : LookupTable) (latch : Latch) → Contains circuit.tables table → Contains circuit.latches latch → IsBoth circuit element table latch → What

  pub what_it_is : holds_some ≡ true → What
  what_it_is some = elim (or_cases (list_any (holds_table circuit element) circuit.tables) (list_any (holds_latch circuit element) circuit.latches) some) [
    | inl t ↦ (let q = from_any (holds_table circuit element) circuit.tables t in by_table q.0 q.1 (table_cases q.0 q.2))
    | inr l ↦ (let q = from_any (holds_latch circuit element) circuit.latches l in by_latch q.0 q.1 (latch_cases q.0 q.2))
  ]
    where
      by_table : (table : LookupTable) → Contains circuit.tables table → IsTableOnly element table ⊎ ((latch : Latch) × Contains circuit.latches latch × IsBoth circuit element table latch) → What
      by_table table c (inl is) = a_table table c is
      by_table table c (inr (latch, d, is)) = both table latch c d is

      by_latch : (latch : Latch) → Contains circuit.latches latch → IsLatchOnly element latch ⊎ ((table : LookupTable) × Contains circuit.tables table × IsBoth circuit element table latch) → What
      by_latch latch c (inl is) = a_latch latch c is
      by_latch latch c (inr (table, d, is)) = both table latch d c is
