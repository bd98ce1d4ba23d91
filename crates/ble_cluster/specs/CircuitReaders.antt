-- Private: the readers of the nets of a circuit, by net.
use Rattle.std.specs.Prelude.{ℕ, ◌≡◌, ◌<◌, length}
use Rattle.ble_cluster.specs.Prelude.{Circuit, IsCircuit}
use Rattle.ble_cluster.specs.declared.readers.Readers.{Readers}
use Rattle.ble_cluster.specs.Bles.{reads_of}
use Rattle.ble_cluster.specs.Reads.{AreCounts, AreDriven, AreLatches}

-- for each net of the lawful circuit the number of its reads, the first latch that stores it, and
-- whether a table drives it
pub record AreReaders (circuit : Circuit) (readers : Readers) : Type 0 where
  pub lawful : IsCircuit circuit
  pub counts_length : length readers.counts.items ≡ length circuit.nets
  pub latches_length : length readers.latches.items ≡ length circuit.nets
  pub driven_length : length readers.is_driven.items ≡ length circuit.nets
  pub counts : AreCounts (reads_of circuit) readers.counts.items
  pub latches : AreLatches circuit.latches readers.latches.items
  pub driven : AreDriven circuit.tables readers.is_driven.items

-- the net is one of the circuit
pub record HasReaders (circuit : Circuit) (readers : Readers) (net : ℕ) : Type 0 where
  pub are : AreReaders circuit readers
  pub within : net < length circuit.nets
