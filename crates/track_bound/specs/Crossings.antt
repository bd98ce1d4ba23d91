-- The nets that cross a column, by the places of their blocks.
use Rattle.std.specs.Prelude.{ℕ, ◌&&◌, ◌||◌, not, nat_lt, Bool, List, count_by}
use Rattle.std.specs.List.{list_any}
use Rattle.cluster.specs.Clusters.{PackedCircuit}
use Rattle.cluster.specs.Blocks.{BlockNet, block_nets}
use Rattle.grid.specs.declared.place.Place.{Place}
use Rattle.block_places.specs.Placed.{place_of}

-- the column is between the two others
abbrev pub is_between : ℕ → ℕ → ℕ → Bool
is_between column a b = (nat_lt a column && nat_lt column b) || (nat_lt b column && nat_lt column a)

-- the block that drives the net is on one side of the column, and a block that reads it on the
-- other; a global net has a network of its own
abbrev pub crosses_column : List Place → ℕ → BlockNet → Bool
crosses_column places column net = not net.global && list_any (λ reader. is_between column (place_of places net.driver).x (place_of places reader).x) net.readers

-- the number of nets that cross the column
abbrev pub crossing_count : PackedCircuit → List Place → ℕ → ℕ
crossing_count packed places column = count_by (crosses_column places column) (block_nets packed)
