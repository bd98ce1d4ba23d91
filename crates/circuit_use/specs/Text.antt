-- The use of a device as a text.
use Rattle.std.specs.Prelude.{ℕ, ◌+◌, ◌-◌, ◌*◌, ◌/◌, ◌^◌, ◌==◌, min, List, [], ◌∷◌, ◌++◌, codes, count_by, decimal, length, if◌then◌else◌}
use Rattle.std.specs.List.{concat, flat_map, range_with_len}
use Rattle.blif.specs.LookupTables.{LookupTable}
use Rattle.device_report.specs.declared.tenancies.ResourceUse.{ResourceUse}
use Rattle.circuit_use.specs.Counts.{has_inputs}
use Rattle.circuit_use.specs.declared.text.DeviceUse.{DeviceUse}

-- what is used of a resource, in per cent, rounded down
abbrev pub percent : ResourceUse → ℕ
percent one = if one.there == 0 then 0 else min (one.used * 100) (2 ^ 64 - 1) / one.there

-- the line of a resource: how many of how many are used
abbrev pub use_line : List ℕ → ResourceUse → List ℕ
use_line name one = concat (
    codes "use " ∷ name ∷ codes " " ∷ decimal one.used ∷ codes "/" ∷ decimal one.there
    ∷ codes " " ∷ decimal (percent one) ∷ codes "%\n" ∷ [])

-- how many tables have that number of inputs
abbrev pub inputs_word : List LookupTable → ℕ → List ℕ
inputs_word tables inputs = concat (codes " " ∷ decimal inputs ∷ codes ":" ∷ decimal (count_by (has_inputs inputs) tables) ∷ [])

abbrev pub inputs_words : List LookupTable → ℕ → List ℕ
inputs_words tables lut_size = flat_map (inputs_word tables) (range_with_len 0 (lut_size + 1))

-- the number of tables
abbrev pub count_text : List LookupTable → List ℕ
count_text tables = concat (codes "use tables " ∷ decimal (length tables) ∷ codes ", by inputs" ∷ [])

-- the line of the tables: their number, and how many have each number of inputs
abbrev pub tables_text : List LookupTable → ℕ → List ℕ
tables_text tables lut_size = count_text tables ++ (inputs_words tables lut_size ++ concat (codes "\n" ∷ []))

abbrev pub elements_text : DeviceUse → List ℕ
elements_text device =
    use_line (codes "logic blocks") device.blocks ++ (use_line (codes "BLEs") device.circuit.bles ++ use_line (codes "latches") device.circuit.latches)

abbrev pub resources_text : DeviceUse → List ℕ
resources_text device =
    use_line (codes "pads") device.pads
    ++ (use_line (codes "wires") device.wires ++ concat (codes "use global nets " ∷ decimal device.circuit.globals ∷ codes "\n" ∷ []))

-- a line for each resource, and one for the tables
abbrev pub use_text : DeviceUse → List LookupTable → ℕ → List ℕ
use_text device tables lut_size = elements_text device ++ (tables_text tables lut_size ++ resources_text device)
