-- How full a device is, as JSON.
use Rattle.std.specs.Prelude.{ℕ, List, [], ◌∷◌, ◌++◌, Option, Some, None, codes, map, if◌then◌else◌}
use Rattle.desk_replies.specs.Prelude.{PackedCircuit, channel_json, circuit_members, DeviceSize, Tenancy, is_routed, ColumnUse, Report, ResourceUse, TenancyUse, Room, Json, null, string, known_number, list_of, name_of, number_of, object_of, net_between, CrowdedNode, Crowding, kind_word}
use Rattle.desk_replies.specs.declared.report_facts.TenancyFacts.{TenancyFacts}

-- what a tenancy uses of one kind: not known unless it is routed
abbrev pub used_of : Tenancy → ResourceUse → Option ℕ
used_of tenancy one = if is_routed tenancy then Some one.used else None

abbrev pub use_json : Tenancy → ResourceUse → Json
use_json tenancy one = object_of ((codes "used", known_number (used_of tenancy one)) ∷ (codes "there", number_of one.there) ∷ [])

abbrev pub use_members : TenancyUse → List (List ℕ × Json)
use_members uses =
    (codes "blocks", use_json uses.tenancy uses.blocks) ∷ (codes "pads", use_json uses.tenancy uses.pads)
    ∷ (codes "across", use_json uses.tenancy uses.across) ∷ (codes "up", use_json uses.tenancy uses.up) ∷ []

-- the strip of a tenancy
abbrev pub strip_members : Tenancy → List (List ℕ × Json)
strip_members tenancy =
    (codes "id", number_of tenancy.id) ∷ (codes "name", name_of tenancy.name.now) ∷ (codes "offset", number_of tenancy.offset)
    ∷ (codes "width", number_of tenancy.width) ∷ (codes "state", name_of tenancy.state.now) ∷ []

-- an overused node, with the names of the nets that use it
abbrev pub node_members : CrowdedNode → List (List ℕ × Json)
node_members crowded =
    (codes "kind", string (kind_word crowded.node.kind)) ∷ (codes "x", number_of crowded.node.x) ∷ (codes "y", number_of crowded.node.y)
    ∷ (codes "number", number_of crowded.node.n) ∷ (codes "occupancy", number_of crowded.occupancy) ∷ (codes "capacity", number_of crowded.capacity) ∷ []

abbrev pub net_json : PackedCircuit → ℕ → Json
net_json packed net = name_of (net_between packed net)

abbrev pub node_json : PackedCircuit → CrowdedNode → Json
node_json packed crowded = object_of (node_members crowded ++ (codes "nets", list_of (map (net_json packed) crowded.nets.items)) ∷ [])

-- where a routing that was given up is overused
abbrev pub crowding_json : Crowding → Json
crowding_json crowding = object_of (
    (codes "nodes_left_overused", number_of crowding.overused) ∷ (codes "nodes", list_of (map (node_json crowding.packed) crowding.nodes.items)) ∷ [])

abbrev pub overuse_json : Option Crowding → Json
overuse_json (Some crowding) = crowding_json crowding
overuse_json None = null

-- a tenancy: its strip, what it uses of it, its circuit, and where its routing is overused
abbrev pub tenancy_json : TenancyFacts → Json
tenancy_json facts = object_of (
    strip_members facts.uses.tenancy ++ (use_members facts.uses ++ (circuit_members facts.circuit ++ (codes "overuse", overuse_json facts.crowding) ∷ [])))

abbrev pub widest_json : Option Room → Json
widest_json (Some room) = object_of ((codes "width", number_of room.width) ∷ (codes "offset", number_of room.offset) ∷ [])
widest_json None = null

-- the device's size, and its columns
abbrev pub device_members : DeviceSize → ColumnUse → List (List ℕ × Json)
device_members size columns =
    (codes "columns", number_of size.columns) ∷ (codes "rows", number_of size.rows) ∷ (codes "tracks", number_of size.tracks) ∷ (codes "pads", number_of size.pads)
    ∷ (codes "used_columns", number_of columns.used) ∷ (codes "guard_columns", number_of columns.guard) ∷ (codes "free_columns", number_of columns.free) ∷ []

-- the members whose values are lists and objects
abbrev pub list_members : Report → List TenancyFacts → List (List ℕ × Json)
list_members report facts =
    (codes "widest", widest_json report.widest) ∷ (codes "fullest_channels", list_of (map channel_json report.fullest.items))
    ∷ (codes "tenancies", list_of (map tenancy_json facts)) ∷ []

-- a report, with these facts of its tenancies
abbrev pub report_json : Report → List TenancyFacts → Json
report_json report facts = object_of (device_members report.size report.columns ++ list_members report facts)
