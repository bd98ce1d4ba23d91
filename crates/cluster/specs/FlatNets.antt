-- Private: block nets whose readers are stored in one list.
use Rattle.std.specs.Prelude.{ℕ, ◌≤◌, List}
use Rattle.std.specs.List.{AllByRecursion}
use Rattle.cluster.specs.declared.block_nets.NetSpan.{NetSpan}
use Rattle.cluster.specs.Prelude.{part_of}
use Rattle.cluster.specs.Blocks.{BlockNet}

-- the net whose readers are at its span of all readers
abbrev pub net_at : List ℕ → NetSpan → BlockNet
net_at readers net = record { net = net.net; driver = net.driver; readers = part_of readers net.readers; global = net.global }

-- each net's span lies within this number of readers
abbrev pub AreNetsWithin : ℕ → List NetSpan → Type 0
AreNetsWithin count nets = AllByRecursion (λ net. (net.readers.start ≤ net.readers.end) × (net.readers.end ≤ count)) nets
