-- The stops of a path.
use Rattle.std.specs.Prelude.{ℕ, ◌+◌, ◌-◌, ◌==◌, List, [], ◌∷◌, ◌++◌, filter, length, map, slice_get, slice_index_or, Option, Some, None, if◌then◌else◌}
use Rattle.std.specs.List.{range_with_len}
use Rattle.std.specs.Option.{option_map_or}
use Rattle.path_stops.specs.Prelude.{has_net, Circuit, Latch, LongestPath, RoutedStrip}
use Rattle.path_stops.specs.Blocks.{block_named, driver_block, net_name, output_pad}
use Rattle.path_stops.specs.declared.stops.PathStop.{PathStop}
use Rattle.path_stops.specs.declared.stops.StopKind.TheVariants.{Start, Table, End}

-- the net that the table of that number drives
abbrev pub net_of_table : Circuit → ℕ → ℕ
net_of_table circuit number = option_map_or (λ table. table.output) (slice_get circuit.tables number) 0

-- the net of the path at that place: the one at which it begins, and then those that its tables
-- drive
abbrev pub net_at : Circuit → LongestPath → ℕ → ℕ
net_at circuit path place =
    if place == 0 then path.from else net_of_table circuit (slice_index_or path.tables.items (length path.tables.items - place) 0)

-- the stop at that place: the start, or a table
abbrev pub stop_at : RoutedStrip → Circuit → LongestPath → ℕ → PathStop
stop_at strip circuit path place = record {
  kind = if place == 0 then Start else Table;
  net = net_at circuit path place;
  block = driver_block strip circuit (net_at circuit path place);
  before = if place == 0 then None else Some (net_at circuit path (place - 1));
}

-- the start and the tables
abbrev pub driver_stops : RoutedStrip → Circuit → LongestPath → List PathStop
driver_stops strip circuit path = map (stop_at strip circuit path) (range_with_len 0 (length path.tables.items + 1))

-- the output that shows a net
abbrev pub output_stop : RoutedStrip → Circuit → ℕ → PathStop
output_stop strip circuit net = record { kind = End; net = net; block = output_pad strip (net_name circuit net); before = Some net }

abbrev pub output_stops : RoutedStrip → Circuit → ℕ → List PathStop
output_stops strip circuit net = if has_net circuit.outputs net then output_stop strip circuit net ∷ [] else []

-- a latch that stores a net
abbrev pub latch_stop : RoutedStrip → Circuit → Latch → PathStop
latch_stop strip circuit latch = record { kind = End; net = latch.output; block = block_named strip (net_name circuit latch.output); before = Some latch.input }

abbrev pub latch_stops : RoutedStrip → Circuit → ℕ → List PathStop
latch_stops strip circuit net = map (latch_stop strip circuit) (filter (λ latch. latch.input == net) circuit.latches)

-- all stops of a path
abbrev pub stops_of : RoutedStrip → Circuit → LongestPath → List PathStop
stops_of strip circuit path = (driver_stops strip circuit path ++ output_stops strip circuit path.to) ++ latch_stops strip circuit path.to
