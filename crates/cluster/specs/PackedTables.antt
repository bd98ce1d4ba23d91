-- Private: the tables that are stored with a packed circuit.
use Rattle.std.specs.Prelude.{◌≡◌, List, length}
use Rattle.cluster.specs.declared.packed_tables.PackedTables.{PackedTables}
use Rattle.cluster.specs.Prelude.{distinct_nets, LogicElement, bles_of}
use Rattle.cluster.specs.Clusters.{PackedCircuit}
use Rattle.cluster.specs.Blocks.{block_nets}
use Rattle.cluster.specs.ClusterPins.{inputs_of_clusters, clocks_of_clusters, readers_by_net, pin_ranks}
use Rattle.cluster.specs.NetUses.{controls_of}
use Rattle.cluster.specs.LawfulPackings.{IsPacked}

-- the tables are those of the packed circuit
pub record AreTablesOf (packed : PackedCircuit) (tables : PackedTables) : Type 0 where
  pub inputs : tables.inputs ≡ inputs_of_clusters (bles_of packed.circuit) packed.clusters
  pub clocks : tables.clocks ≡ clocks_of_clusters (bles_of packed.circuit) packed.clusters
  pub globals : tables.uses.globals ≡ record { count = length packed.circuit.nets; nets = distinct_nets (controls_of packed.circuit.latches) }
  pub readers : tables.uses.readers ≡ readers_by_net packed.circuit (bles_of packed.circuit) packed.clusters
  pub nets : tables.nets ≡ block_nets packed
  pub ranks : tables.ranks.items ≡ pin_ranks packed.arch.pins

-- the packed circuit results from packing, and the BLEs are those of its circuit
pub record IsPackedOf (value : PackedCircuit) (elements : List LogicElement) : Type 0 where
  pub packed : IsPacked value
  pub bles : elements ≡ bles_of value.circuit

-- the BLEs and the tables are those of the packed circuit
pub record ArePartsOf (packed : PackedCircuit) (elements : List LogicElement) (tables : PackedTables) : Type 0 where
  pub lawful : IsPacked packed
  pub bles : elements ≡ bles_of packed.circuit
  pub kept : AreTablesOf packed tables
