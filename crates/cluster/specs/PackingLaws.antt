-- The laws of every packing, by which a placer and a router index.
use Rattle.std.specs.Prelude.{ℕ, ◌≡◌, ◌≢◌, ◌<◌, ◌≤◌, ◌↔◌, true, IsTrue, All, AllPairs, Contains, length}
use Rattle.std.specs.List.{concat, flat_map}
use Rattle.std.specs.Option.{option_to_list}
use Rattle.cluster.specs.Prelude.{MAX_PINS, MAX_NETS, Circuit, bles_of, elements_at, fits_in_cluster}
use Rattle.cluster.specs.Clusters.{PackedCircuit}
use Rattle.cluster.specs.Blocks.{BlockNet, block_nets, blocks_of}
use Rattle.cluster.specs.Keys.{keys_of}

-- the net controls a latch
abbrev pub ControlsLatch : Circuit → ℕ → Type 0
ControlsLatch circuit net = Contains (flat_map (λ latch. option_to_list latch.control) circuit.latches) net

-- A net between blocks is a net of the circuit, and its driver and readers are blocks. Its readers
-- are in increasing order, so none occurs twice, and none is the driver. It is global if and only
-- if it controls a latch.
pub record IsBlockNet (packed : PackedCircuit) (between : BlockNet) : Type 0 where
  pub named : between.net < length packed.circuit.nets
  pub driver : between.driver < length (blocks_of packed)
  pub readers : All (λ reader. reader < length (blocks_of packed)) between.readers
  pub rise : AllPairs (λ reader later. reader < later) between.readers
  pub others : All (λ reader. reader ≢ between.driver) between.readers
  pub controls : IsTrue between.global ↔ ControlsLatch packed.circuit between.net

-- Each BLE is in exactly one cluster, and each cluster fits. The nets between blocks are lawful,
-- pads of one kind have different nets, and no two blocks have the same key. For every circuit and
-- architecture there are at most 16,384 blocks, 8,192 nets between them and 145 pins of a logic
-- block.
pub record IsLawfulPacking (packed : PackedCircuit) : Type 0 where
  pub whole : (number : ℕ) → number < length (bles_of packed.circuit) → Contains (concat packed.clusters) number
  pub once : AllPairs (λ number other. number ≢ other) (concat packed.clusters)
  pub fit : All (λ members. fits_in_cluster packed.arch (elements_at (bles_of packed.circuit) members) ≡ true) packed.clusters
  pub nets : All (IsBlockNet packed) (block_nets packed)
  pub input_pads : AllPairs (λ net other. net ≢ other) packed.circuit.inputs
  pub output_pads : AllPairs (λ net other. net ≢ other) packed.circuit.outputs
  pub keys : AllPairs (λ key other. key ≢ other) (keys_of packed)
  pub few_blocks : length (blocks_of packed) ≤ 16384
  pub few_nets : length (block_nets packed) ≤ MAX_NETS
  pub few_pins : length packed.arch.pins ≤ MAX_PINS
