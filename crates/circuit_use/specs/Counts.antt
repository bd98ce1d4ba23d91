-- The elements of a circuit, counted.
use Rattle.std.specs.Prelude.{ℕ, ◌*◌, ◌==◌, Bool, false, List, count_by, length, Option, Some, None}
use Rattle.std.specs.List.{list_any, range_with_len}
use Rattle.ble_cluster.specs.Bles.{bles_of}
use Rattle.blif.specs.LookupTables.{LookupTable}
use Rattle.blif.specs.declared.circuit.Circuit.{Circuit}
use Rattle.circuit_use.specs.declared.counting.CircuitUse.{CircuitUse}

-- the number of BLEs of a device of that size, with that number in each logic block
abbrev pub bles_there : ℕ → ℕ → ℕ → ℕ
bles_there cluster_size columns rows = columns * rows * cluster_size

-- the net that controls a latch, if one does, is this one
abbrev pub is_control : Option ℕ → ℕ → Bool
is_control (Some control) net = control == net
is_control None net = false

-- the net controls a latch
abbrev pub is_global : Circuit → ℕ → Bool
is_global circuit net = list_any (λ latch. is_control latch.control net) circuit.latches

-- the number of nets that do
abbrev pub global_nets : Circuit → ℕ
global_nets circuit = count_by (is_global circuit) (range_with_len 0 (length circuit.nets))

-- the table has that number of inputs
abbrev pub has_inputs : ℕ → LookupTable → Bool
has_inputs inputs table = length table.inputs == inputs

-- the BLEs, latches and global nets of a circuit, on a device with that number of BLEs
abbrev pub use_of : Circuit → ℕ → CircuitUse
use_of circuit there = record {
  bles = record { used = length (bles_of circuit); there = there };
  latches = record { used = length circuit.latches; there = there };
  globals = global_nets circuit;
}
