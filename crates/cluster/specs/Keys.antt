-- Keys of blocks, which don't depend on their numbers.
use Rattle.std.specs.Prelude.{ℕ, List, ◌∷◌, map}
use Rattle.std.specs.declared.cmp.Ordering.{Ordering}
use Rattle.std.specs.Ordering.{nat_cmp}
use Rattle.std.specs.Cmp.Lexicographic.{slice_cmp}
use Rattle.cluster.specs.declared.block.Block.{Block}
use Rattle.cluster.specs.declared.block.Block.TheVariants as block
use Rattle.cluster.specs.declared.block.BlockKind.{BlockKind}
use Rattle.cluster.specs.declared.block.BlockKind.TheVariants.{InputPad, OutputPad, Cluster}
use Rattle.cluster.specs.Clusters.{PackedCircuit}
use Rattle.cluster.specs.Blocks.{block_name, blocks_of, net_name}

-- the key of a block: its kind and its name
pub record BlockKey : Type 0 where
  pub kind : BlockKind
  pub name : List ℕ

-- the kinds in order
abbrev pub kind_number : BlockKind → ℕ
kind_number InputPad = 0
kind_number OutputPad = 1
kind_number Cluster = 2

-- by kind, then by name
abbrev pub key_order : BlockKey → BlockKey → Ordering
key_order key other = slice_cmp nat_cmp (kind_number key.kind ∷ key.name) (kind_number other.kind ∷ other.name)

-- the key of a block: its kind, and the name of the net that gives it its name
abbrev pub key_of : PackedCircuit → Block → BlockKey
key_of packed (block.InputPad net) = record { kind = InputPad; name = net_name packed.circuit net }
key_of packed (block.OutputPad net) = record { kind = OutputPad; name = net_name packed.circuit net }
key_of packed (block.Cluster cluster) = record { kind = Cluster; name = block_name packed (block.Cluster cluster) }

-- the keys of the blocks, by number
abbrev pub keys_of : PackedCircuit → List BlockKey
keys_of packed = map (key_of packed) (blocks_of packed)
