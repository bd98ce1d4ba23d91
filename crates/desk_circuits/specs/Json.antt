-- Circuits and what names used, as JSON.
use Rattle.std.specs.Prelude.{ℕ, ◌==◌, Bool, List, [], ◌∷◌, ◌++◌, Option, Some, None, codes, find, length, map, option_map, slice_index_or, if◌then◌else◌}
use Rattle.std.specs.List.{list_any, slice_get}
use Rattle.std.specs.Option.{option_map_or}
use Rattle.desk_circuits.specs.Prelude.{LookupTable, Circuit, Latch, Longest, Path, NoPath, Loop, LongestPath, Usage, Json, null, known_number, list_of, name_of, number_of, object_of}
use Rattle.desk_circuits.specs.declared.longest.MeasuredCircuit.{MeasuredCircuit}
use Rattle.desk_circuits.specs.declared.usages.NameFacts.{NameFacts}

-- the name of a net; empty if there is no such net
abbrev pub net_name : Circuit → ℕ → List ℕ
net_name circuit net = slice_index_or circuit.nets net []

-- whether a net is an output
abbrev pub has_output : Circuit → ℕ → Bool
has_output circuit net = list_any (λ output. output == net) circuit.outputs

-- the first latch that reads a net
abbrev pub latch_storing : Circuit → ℕ → Option Latch
latch_storing circuit net = find (λ latch. latch.input == net) circuit.latches

-- the name of the end of a path: of the output, or of the first latch that reads the net
abbrev pub end_name : Circuit → ℕ → List ℕ
end_name circuit net =
    if has_output circuit net then net_name circuit net
    else option_map_or (λ latch. net_name circuit latch.output) (latch_storing circuit net) (net_name circuit net)

-- the table of that number: the net that it drives, and its line in the netlist
abbrev pub table_of : Circuit → Option LookupTable → Json
table_of circuit (Some table) = object_of ((codes "net", name_of (net_name circuit table.output)) ∷ (codes "line", number_of table.line) ∷ [])
table_of circuit None = null

abbrev pub table_json : Circuit → ℕ → Json
table_json circuit number = table_of circuit (slice_get circuit.tables number)

-- the tables of a loop, as they are found: each one reads the next one
abbrev pub loop_json : Circuit → Option (List ℕ) → Json
loop_json circuit (Some tables) = list_of (map (table_json circuit) tables)
loop_json circuit None = null

abbrev pub ends_json : Circuit → Option ℕ → LongestPath → Json
ends_json circuit wires path = object_of (
    (codes "tables", number_of (length path.tables.items)) ∷ (codes "wires", known_number wires)
    ∷ (codes "from", name_of (net_name circuit path.from)) ∷ (codes "to", name_of (end_name circuit path.to)) ∷ [])

-- the longest path; the loop, if some tables form one; nothing, if there is no path
abbrev pub longest_json : MeasuredCircuit → Longest → Json
longest_json measured (Path path) = ends_json measured.circuit measured.wires path
longest_json measured NoPath = null
longest_json measured Loop = object_of ((codes "loop", loop_json measured.circuit (option_map (λ tables. tables.items) measured.looped)) ∷ [])

abbrev pub count_members : Circuit → List (List ℕ × Json)
count_members circuit = (codes "tables", number_of (length circuit.tables)) ∷ (codes "latches", number_of (length circuit.latches)) ∷ []

-- the members of a circuit: its tables, its latches and its longest path; nothing is known of a
-- circuit that is not there
abbrev pub circuit_members : Option MeasuredCircuit → List (List ℕ × Json)
circuit_members (Some measured) = count_members measured.circuit ++ (codes "longest_path", longest_json measured measured.longest) ∷ []
circuit_members None = (codes "tables", null) ∷ (codes "latches", null) ∷ (codes "longest_path", null) ∷ []

-- what a name used
abbrev pub usage_members : List ℕ → Usage → List (List ℕ × Json)
usage_members name usage =
    (codes "name", name_of name) ∷ (codes "columns", number_of usage.columns) ∷ (codes "lines", number_of usage.lines)
    ∷ (codes "refused", number_of usage.refused) ∷ (codes "jobs", number_of usage.jobs) ∷ (codes "steps_by_the_operator", number_of usage.steps) ∷ []

abbrev pub name_json : NameFacts → Json
name_json facts = object_of (usage_members facts.name.now facts.usage ++ circuit_members facts.circuit)

abbrev pub line_members : ℕ → ℕ → ℕ → List (List ℕ × Json)
line_members served refused files = (codes "served", number_of served) ∷ (codes "refused", number_of refused) ∷ (codes "files_written", number_of files) ∷ []

-- what a script's names used, and its lines that were served and refused
abbrev pub usages_json : ℕ → ℕ → ℕ → List NameFacts → Json
usages_json served refused files names = object_of (line_members served refused files ++ (codes "names", list_of (map name_json names)) ∷ [])
