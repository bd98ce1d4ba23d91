-- Lookup tables, with nets by number.
use Rattle.std.specs.Prelude.{ℕ, ◌≤◌, List}
use Rattle.std.specs.List.{AllByRecursion}
use Rattle.blif.specs.declared.tables.TableSpan.{TableSpan}
use Rattle.blif.specs.Spans.{part_of}

-- a table: its line number, the nets that it reads, in order, and the net that it drives
pub record LookupTable : Type 0 where
  pub line : ℕ
  pub inputs : List ℕ
  pub output : ℕ

-- private: the table whose inputs are at its span of the inputs of all tables
abbrev pub table_at : List ℕ → TableSpan → LookupTable
table_at inputs table = record { line = table.line; inputs = part_of inputs table.inputs; output = table.output }

-- private: each table's span lies within this number of inputs
abbrev pub AreTablesWithin : ℕ → List TableSpan → Type 0
AreTablesWithin count tables = AllByRecursion (λ table. (table.inputs.start ≤ table.inputs.end) × (table.inputs.end ≤ count)) tables
