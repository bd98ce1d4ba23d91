-- Parts of what the layout of results keeps: inside a cluster, and at its ports.
use Rattle.implements.proofs.Prelude.{All, AllPairs, Contains, flat_map, Circuit, kind_of, PackedCircuit, elements_in, LogicElement, Block, Cluster, Strip, Place, places_of, input_at, output_at, IsFed, LaidBlock, Layout, traced_ble, laid_block}
use Rattle.std.specs.Prelude.{ℕ, ◌≡◌, ◌≢◌, ◌≤◌, List, [], length, map}

-- the block of that cluster on its place
abbrev pub laid_cluster : PackedCircuit → ℕ → Place → LaidBlock
laid_cluster packed cluster place = laid_block packed (Cluster cluster) place

-- Traced back, the BLEs of a cluster's lines are those that were packed: to each input comes the
-- net that it reads, and its clock, and each pin by which one leaves carries what it drives.
pub record IsTracedBack (packed : PackedCircuit) (cluster : ℕ) (place : Place) : Type 0 where
  pub same : map (traced_ble packed.arch (laid_cluster packed cluster place)) (laid_cluster packed cluster place).bles ≡ elements_in packed cluster
  pub fed : All (IsFed packed.arch (laid_cluster packed cluster place)) (laid_cluster packed cluster place).bles
  pub few : length (laid_cluster packed cluster place).bles ≤ packed.arch.cluster_size

-- The ports of a layout: its input pads are the circuit's inputs, its output pads the outputs, and
-- each block has a place of its kind that no other has.
pub record HasPorts (circuit : Circuit) (strip : Strip) (layout : Layout) : Type 0 where
  pub inputs : flat_map (λ laid. input_at laid.block) layout.blocks ≡ circuit.inputs
  pub outputs : flat_map (λ laid. output_at laid.block) layout.blocks ≡ circuit.outputs
  pub placed : All (λ laid. Contains (places_of strip (kind_of laid.block)) laid.place) layout.blocks
  pub apart : AllPairs (λ laid other. laid.place ≢ other.place) layout.blocks

-- the BLEs that were packed into a block
abbrev pub packed_bles : PackedCircuit → Block → List LogicElement
packed_bles packed (Cluster cluster) = elements_in packed cluster
packed_bles packed block = []
