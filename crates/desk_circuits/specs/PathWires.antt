-- The wires of a path, and its stops as a text.
use Rattle.std.specs.Prelude.{ℕ, ◌≡◌, ◌+◌, ◌-◌, ◌^◌, List, fold, max, min, Option, Some, None}
use Rattle.std.specs.List.{AllZip, flat_map, sum_by}
use Rattle.desk_circuits.specs.Prelude.{Circuit, LongestPath, IsMeasured, stops_of, stop_text, MeasuredStop, StopKind, Start, Table, End, RoutedStrip}
use Rattle.desk_circuits.specs.Strips.{IsStripOf, StripFiles}

-- these are the stops of the path over the strip, with the wires on the way to each
abbrev pub AreStops : RoutedStrip → Circuit → LongestPath → List MeasuredStop → Type 0
AreStops strip circuit path stops = AllZip (IsMeasured strip circuit) (stops_of strip circuit path) stops

-- the wires, if there are any
abbrev pub known_wires : Option ℕ → ℕ
known_wires (Some wires) = wires
known_wires None = 0

-- the wires on the way to a table; none to another stop
abbrev pub table_wires : StopKind → Option ℕ → ℕ
table_wires Start wires = 0
table_wires Table wires = known_wires wires
table_wires End wires = 0

abbrev pub wires_to_table : MeasuredStop → ℕ
wires_to_table one = table_wires one.stop.kind one.wires

-- the wires on the way to an end; none to another stop
abbrev pub last_wires : StopKind → Option ℕ → ℕ
last_wires Start wires = 0
last_wires Table wires = 0
last_wires End wires = known_wires wires

abbrev pub wires_to_end : MeasuredStop → ℕ
wires_to_end one = last_wires one.stop.kind one.wires

-- the wires on the ways to all tables, as far as 64 bits hold them
abbrev pub wires_to_tables : List MeasuredStop → ℕ
wires_to_tables stops = min (sum_by wires_to_table stops) (2 ^ 64 - 1)

-- the most wires on the way to an end
abbrev pub wires_to_ends : List MeasuredStop → ℕ
wires_to_ends stops = fold (λ most stop. max most (wires_to_end stop)) 0 stops

-- the wires of a path with these stops: those to its tables and, of its ends, to that with the most
abbrev pub wires_over : List MeasuredStop → ℕ
wires_over stops = min (wires_to_tables stops + wires_to_ends stops) (2 ^ 64 - 1)

-- the path has that number of wires over the strip
abbrev pub HasWiresOn : RoutedStrip → Circuit → LongestPath → ℕ → Type 0
HasWiresOn strip circuit path wires = (stops : List MeasuredStop) × AreStops strip circuit path stops × (wires ≡ wires_over stops)

-- the path has that number of wires by the three files
abbrev pub HasWires : StripFiles → Circuit → LongestPath → ℕ → Type 0
HasWires files circuit path wires = (strip : RoutedStrip) × IsStripOf files strip × HasWiresOn strip circuit path wires

-- the text has the stops of the path over the strip, with the wires between them
abbrev pub ShowsStopsOn : RoutedStrip → Circuit → LongestPath → List ℕ → Type 0
ShowsStopsOn strip circuit path text = (stops : List MeasuredStop) × AreStops strip circuit path stops × (text ≡ flat_map (stop_text strip circuit) stops)

-- the text has those by the three files
abbrev pub ShowsStops : StripFiles → Circuit → LongestPath → List ℕ → Type 0
ShowsStops files circuit path text = (strip : RoutedStrip) × IsStripOf files strip × ShowsStopsOn strip circuit path text
