-- What a routed netlist uses of its device, as JSON.
use Rattle.std.specs.Prelude.{ℕ, List, [], ◌∷◌, ◌++◌, Option, Some, None, codes, map}
use Rattle.desk_netlists.specs.Prelude.{Circuit, Lacking, Nothing, Blocks, Pads, BlocksAndPads, channel_json, circuit_members, net_name, ChannelUse, ResourceUse, Json, null, string, known_number, list_of, name_of, number_of, object_of, StopKind, Start, Table, End}
use Rattle.desk_netlists.specs.declared.path_facts.StopFacts.{StopFacts}
use Rattle.desk_netlists.specs.declared.routed_json.RoutedFacts.{RoutedFacts}

abbrev pub stop_word : StopKind → List ℕ
stop_word Start = codes "from"
stop_word Table = codes "table"
stop_word End = codes "to"

-- a stop of the longest path: the wires on the way to it, its net, and its block's place; a pad has
-- a number there
abbrev pub stop_json : Circuit → StopFacts → Json
stop_json circuit stop = object_of (
    (codes "stop", string (stop_word stop.kind)) ∷ (codes "net", name_of (net_name circuit stop.net)) ∷ (codes "wires", known_number stop.wires)
    ∷ (codes "x", known_number stop.x) ∷ (codes "y", known_number stop.y) ∷ (codes "pad", known_number stop.pad) ∷ [])

abbrev pub fullest_json : Option ChannelUse → Json
fullest_json (Some channel) = channel_json channel
fullest_json None = null

-- what sets the size of the device: not known of a size that is given
abbrev pub lacking_json : Option Lacking → Json
lacking_json (Some Nothing) = string (codes "nothing")
lacking_json (Some Blocks) = string (codes "logic blocks")
lacking_json (Some Pads) = string (codes "pads")
lacking_json (Some BlocksAndPads) = string (codes "logic blocks and pads")
lacking_json None = null

abbrev pub size_members : RoutedFacts → List (List ℕ × Json)
size_members facts =
    (codes "netlist", string facts.name.now) ∷ (codes "columns", number_of facts.size.columns) ∷ (codes "rows", number_of facts.size.rows)
    ∷ (codes "tracks", number_of facts.figures.tracks) ∷ (codes "nets", number_of facts.figures.nets)
    ∷ (codes "global_nets", number_of facts.elements.globals) ∷ (codes "iterations", number_of facts.figures.iterations) ∷ []

-- how many of how many are used
abbrev pub part_json : ResourceUse → Json
part_json one = object_of ((codes "used", number_of one.used) ∷ (codes "there", number_of one.there) ∷ [])

abbrev pub part_members : RoutedFacts → List (List ℕ × Json)
part_members facts =
    (codes "logic_blocks", part_json facts.figures.blocks) ∷ (codes "bles", part_json facts.elements.bles)
    ∷ (codes "pads", part_json facts.figures.pads) ∷ (codes "wires", part_json facts.figures.wires) ∷ []

abbrev pub last_members : Circuit → RoutedFacts → List (List ℕ × Json)
last_members circuit facts =
    (codes "fullest_channel", fullest_json facts.figures.fullest) ∷ (codes "size_set_by", lacking_json facts.lacking)
    ∷ (codes "path", list_of (map (stop_json circuit) facts.stops.now)) ∷ []

-- what is known of the routed netlist of this circuit
abbrev pub routed_json : Circuit → RoutedFacts → Json
routed_json circuit facts = object_of (size_members facts ++ (part_members facts ++ (circuit_members facts.measured.now ++ last_members circuit facts)))
