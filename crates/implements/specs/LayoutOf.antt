-- The layout of a packed circuit, its places and its routes: the one that the result files print.
use Rattle.std.specs.Prelude.{ℕ, List, [], ◌∷◌, Option, Some, map, option_and_then, option_map, slice_index_or, filter, if◌then◌else◌}
use Rattle.std.specs.List.{enumerate_from, flat_map}
use Rattle.std.specs.Option.{option_map_or, option_to_list}
use Rattle.implements.specs.Prelude.{Input, Output, Clock, place_of, LogicElement, PackedCircuit, BlockNet, block_nets, blocks_of, elements_in, pins_of, Block, Cluster, Place, Node, driver_place, pin_with}
use Rattle.implements.specs.declared.feed.Feed.{Feed}
use Rattle.implements.specs.declared.feed.Feed.TheVariants.{Pin, Ble}
use Rattle.implements.specs.Layouts.{LaidBle, LaidBlock, LaidNet, Layout}

-- where the net of an input comes from, as the `.net` file says it: from a BLE of the cluster, or
-- else from an input pin
abbrev pub feed_of : PackedCircuit → ℕ → ℕ → Option Feed
feed_of packed cluster net = option_map_or (λ place. Some (Ble place)) (driver_place packed cluster net) (option_map Pin (pin_with packed cluster Input net))

-- what the line of a BLE says
abbrev pub laid_ble : PackedCircuit → ℕ → LogicElement → LaidBle
laid_ble packed cluster element = record {
  name = element.output;
  inputs = flat_map (λ net. option_to_list (feed_of packed cluster net)) element.inputs;
  output = pin_with packed cluster Output element.output;
  clock = option_and_then (pin_with packed cluster Clock) element.clock;
}

-- what the lines of a block say, with its place
abbrev pub laid_block : PackedCircuit → Block → Place → LaidBlock
laid_block packed (Cluster cluster) place = record { block = Cluster cluster; pins = pins_of packed cluster; bles = map (laid_ble packed cluster) (elements_in packed cluster); place = place }
laid_block packed block place = record { block = block; pins = []; bles = []; place = place }

-- what the lines of a net between blocks say: a global net lists blocks, its driver first, and has
-- no tree
abbrev pub laid_net : BlockNet → List (List Node) → LaidNet
laid_net between paths = record { net = between.net; listed = if between.global then between.driver ∷ between.readers else []; paths = if between.global then [] else paths }

unfoldable pub layout_of : PackedCircuit → List Place → List (List (List Node)) → Layout
layout_of packed places routes = record {
  globals = map (λ between. between.net) (filter (λ between. between.global) (block_nets packed));
  blocks = map (λ block. laid_block packed block.1 (place_of places block.0)) (enumerate_from 0 (blocks_of packed));
  nets = map (λ net. laid_net net.1 (slice_index_or routes net.0 [])) (enumerate_from 0 (block_nets packed));
}
