-- Private: tables of a circuit's nets.
use Rattle.std.specs.Prelude.{ℕ, ◌≡◌, ◌<◌, Bool, List, ◌++◌, min, count_by, find, length, slice_index, slice_get, Option, Some, ◌==◌}
use Rattle.std.specs.List.{list_any}
use Rattle.ble_cluster.specs.Prelude.{Circuit, Latch, IsCircuit, LookupTable}

-- the number of reads of each net, counted up to 255
abbrev pub AreCounts : List ℕ → List ℕ → Type 0
AreCounts reads counts = (net : ℕ) → net < length counts → slice_index counts net ≡ min 255 (count_by (λ read. read == net) reads)

-- for each net the first latch that stores it
abbrev pub AreLatches : List Latch → List (Option Latch) → Type 0
AreLatches latches behind = (net : ℕ) → net < length behind → slice_get behind net ≡ Some (find (λ latch. latch.input == net) latches)

-- whether a table drives the net
abbrev pub AreDriven : List LookupTable → List Bool → Type 0
AreDriven tables driven = (net : ℕ) → net < length driven → slice_get driven net ≡ Some (list_any (λ table. table.output == net) tables)

-- there is a count for each net of the lawful circuit
pub record HasCounts (circuit : Circuit) (counts : List ℕ) : Type 0 where
  pub lawful : IsCircuit circuit
  pub long : length counts ≡ length circuit.nets

-- the new counts are the old ones plus these reads
abbrev pub CountsOn : List ℕ → List ℕ → List ℕ → Type 0
CountsOn old more new = (reads : List ℕ) → AreCounts reads old → AreCounts (reads ++ more) new
