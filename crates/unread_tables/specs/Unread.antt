-- The tables of a circuit that drive nothing that is read.
use Rattle.std.specs.Prelude.{ℕ, ◌≡◌, ◌<◌, Bool, false, List, ◌∷◌, ◌++◌, count_by, flat_map, length, not, option_to_list, slice_index_or}
use Rattle.blif.specs.LookupTables.{LookupTable}
use Rattle.blif.specs.LawfulCircuits.{has_net}
use Rattle.blif.specs.declared.circuit.Circuit.{Circuit}
use Rattle.blif.specs.declared.latches.Latch.{Latch}

-- the nets that a latch reads: its input, and the net that controls it
abbrev pub reads_of : Latch → List ℕ
reads_of latch = latch.input ∷ option_to_list latch.control

-- the nets that are read: the outputs, and what tables and latches read
abbrev pub read_nets : Circuit → List ℕ
read_nets circuit = (circuit.outputs ++ flat_map (λ (table : LookupTable). table.inputs) circuit.tables) ++ flat_map reads_of circuit.latches

-- the number of tables whose net is not read
abbrev pub unread_tables : Circuit → ℕ
unread_tables circuit = count_by (λ (table : LookupTable). not (has_net (read_nets circuit) table.output)) circuit.tables

-- private: of that many nets, just these are marked
pub record AreMarks (count : ℕ) (nets : List ℕ) (marks : List Bool) : Type 0 where
  pub long : length marks ≡ count
  pub each : (net : ℕ) → net < count → slice_index_or marks net false ≡ has_net nets net
