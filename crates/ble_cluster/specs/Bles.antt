-- Basic logic elements (BLEs): a table, a latch, or a table with the latch that stores its output.
use Rattle.std.specs.Prelude.{ℕ, Bool, not, ◌&&◌, ◌==◌, nat_lt, List, [], ◌∷◌, ◌++◌, map, filter, find, drop, count_by, Option, Some, None, if◌then◌else◌}
use Rattle.std.specs.List.{flat_map, list_any, take_while, prefix_len, slice_index_or}
use Rattle.std.specs.Option.{option_to_list}
use Rattle.ble_cluster.specs.Prelude.{Circuit, Latch, LookupTable}
use Rattle.ble_cluster.specs.Nets.{distinct_nets}

-- a BLE: the nets that it reads, each once, the net that it drives, which gives it its name, and
-- its clock, if it has one
pub record LogicElement : Type 0 where
  pub inputs : List ℕ
  pub output : ℕ
  pub clock : Option ℕ

-- all reads: by tables, by latches, by their controls and from outside
abbrev pub reads_of : Circuit → List ℕ
reads_of circuit = flat_map (λ table. table.inputs) circuit.tables ++ map (λ latch. latch.input) circuit.latches ++ flat_map (λ latch. option_to_list latch.control) circuit.latches ++ circuit.outputs

-- the net is read exactly once
abbrev pub is_read_once : Circuit → ℕ → Bool
is_read_once circuit net = count_by (λ read. read == net) (reads_of circuit) == 1

-- the latch that is the only reader of the net
abbrev pub latch_after : Circuit → ℕ → Option Latch
latch_after circuit net = if is_read_once circuit net then find (λ latch. latch.input == net) circuit.latches else None

-- the BLE of a table, with the latch that stores its output if there is one
abbrev pub element_of_table : LookupTable → Option Latch → LogicElement
element_of_table table None = record { inputs = distinct_nets table.inputs; output = table.output; clock = None }
element_of_table table (Some latch) = record { inputs = distinct_nets table.inputs; output = latch.output; clock = latch.control }

-- the BLE of a latch alone
abbrev pub element_of_latch : Latch → LogicElement
element_of_latch latch = record { inputs = latch.input ∷ []; output = latch.output; clock = latch.control }

-- the latch is not joined with a table
abbrev pub stands_alone : Circuit → Latch → Bool
stands_alone circuit latch = not (is_read_once circuit latch.input && list_any (λ table. table.output == latch.input) circuit.tables)

-- tables with the latches that store their outputs, and latches alone; a table comes after the
-- latches of earlier lines
abbrev pub in_line_order : Circuit → List LookupTable → List Latch → List LogicElement
in_line_order circuit [] latches = map element_of_latch latches
in_line_order circuit (table ∷ tables) latches =
    map element_of_latch (take_while (λ latch. nat_lt latch.line table.line) latches)
    ++ element_of_table table (latch_after circuit table.output)
    ∷ in_line_order circuit tables (drop (prefix_len (λ latch. nat_lt latch.line table.line) latches) latches)

-- the BLEs of a circuit, numbered from 0 in the order of their lines
unfoldable pub bles_of : Circuit → List LogicElement
bles_of circuit = in_line_order circuit circuit.tables (filter (stands_alone circuit) circuit.latches)

-- the BLE with this number
abbrev pub element_at : List LogicElement → ℕ → LogicElement
element_at elements number = slice_index_or elements number (record { inputs = []; output = 0; clock = None })
