-- Private: the clusters of blocks.
use Rattle.std.specs.Prelude.{◌<◌, ⊤, length}
use Rattle.vpr_files.specs.Prelude.{Block, Cluster, PackedCircuit}

-- if the block is a cluster, it is one of the packing's
abbrev pub HasCluster : PackedCircuit → Block → Type 0
HasCluster packed (Cluster cluster) = cluster < length packed.clusters
HasCluster packed block = ⊤
