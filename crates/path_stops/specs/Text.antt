-- The stops of a path as a text.
use Rattle.std.specs.Prelude.{ℕ, ◌==◌, List, [], ◌∷◌, ◌++◌, codes, decimal, Option, Some, None, if◌then◌else◌}
use Rattle.std.specs.List.{concat}
use Rattle.path_stops.specs.Prelude.{Circuit, Place, BlockKind, InputPad, OutputPad, Cluster, PlacedBlock, RoutedStrip}
use Rattle.path_stops.specs.Blocks.{net_name}
use Rattle.path_stops.specs.Measured.{block_at}
use Rattle.path_stops.specs.declared.measured.MeasuredStop.{MeasuredStop}
use Rattle.path_stops.specs.declared.stops.PathStop.{PathStop}
use Rattle.path_stops.specs.declared.stops.StopKind.{StopKind}
use Rattle.path_stops.specs.declared.stops.StopKind.TheVariants.{Start, Table, End}

-- the line of the wires on the way to a stop; the start has none
abbrev pub wire_word : ℕ → List ℕ
wire_word wires = if wires == 1 then codes " wire\n" else codes " wires\n"

abbrev pub wires_line : ℕ → List ℕ
wires_line wires = concat (codes "path " ∷ decimal wires ∷ wire_word wires ∷ [])

abbrev pub way_line : Option ℕ → List ℕ
way_line None = []
way_line (Some wires) = wires_line wires

-- the word for a kind of stop
abbrev pub kind_word : StopKind → List ℕ
kind_word Start = codes "from"
kind_word Table = codes "table"
kind_word End = codes "to"

-- the kind and the name of a stop
abbrev pub name_text : Circuit → PathStop → List ℕ
name_text circuit stop = concat (codes "path " ∷ kind_word stop.kind ∷ codes " " ∷ net_name circuit stop.net ∷ [])

-- the place of a pad, of a block of either kind, and of the block of a stop
abbrev pub pad_text : Place → List ℕ
pad_text place = concat (codes " pad " ∷ decimal place.x ∷ codes " " ∷ decimal place.y ∷ codes " " ∷ decimal place.subblock ∷ codes "\n" ∷ [])

abbrev pub logic_text : Place → List ℕ
logic_text place = concat (codes " block " ∷ decimal place.x ∷ codes " " ∷ decimal place.y ∷ codes "\n" ∷ [])

abbrev pub text_by : BlockKind → Place → List ℕ
text_by Cluster place = logic_text place
text_by InputPad place = pad_text place
text_by OutputPad place = pad_text place

abbrev pub block_text : PlacedBlock → List ℕ
block_text block = text_by block.kind block.place

abbrev pub place_text : Option PlacedBlock → List ℕ
place_text (Some block) = block_text block
place_text None = concat (codes "\n" ∷ [])

-- the lines of a stop: the wires on the way to it, and its kind, name, block and place
abbrev pub stop_text : RoutedStrip → Circuit → MeasuredStop → List ℕ
stop_text strip circuit one = way_line one.wires ++ (name_text circuit one.stop ++ place_text (block_at strip one.stop.block))
