-- private: parts of the configuration, as the functions of this crate write them.
use Rattle.std.specs.Prelude.{ℕ, ◌-◌, ◌^◌, Bool, not, List, Option, codes, filter, is_some, map, if◌then◌else◌}
use Rattle.std.specs.List.{enumerate_from, flat_map, list_any, range_with_len, take_while}
use Rattle.std.specs.Option.{option_map_or}
use Rattle.configuration_text.specs.Prelude.{Arch, JoinedLine, LookupTable, kind_of, Circuit, Latch, Table, ble_lines, control_in, ConfigurationLine, Stores, BlePlace, ble_at, is_place, LaidBle, LaidBlock, Layout, args_at, init_in, is_row_kind, rows_at, type_in, bit_of, value_in, value_of}

-- the value of a table that is lent
abbrev pub table_read : Table → LookupTable
table_read table = record { line = table.line; inputs = table.inputs.now; output = table.output }

-- the words of the rows with which the lines begin
abbrev pub row_words : List JoinedLine → List (List (List ℕ))
row_words lines = map (λ line. line.words) (take_while (λ line. is_row_kind (kind_of line)) lines)

-- the first bits of a table with these rows and inputs, and of a wire
abbrev pub values_below : ℕ → List (List (List ℕ)) → List ℕ → List ℕ → List Bool
values_below count rows inputs nets = map (λ number. value_of rows (map (value_in nets number) inputs)) (range_with_len 0 count)

abbrev pub wire_below : ℕ → List Bool
wire_below count = map (λ number. bit_of number 0) (range_with_len 0 count)

-- the bits of a table that receives these nets; those of a wire if there is no table
abbrev pub bits_within : List JoinedLine → Option LookupTable → List ℕ → ℕ → List Bool
bits_within lines table nets width = option_map_or (λ table. values_below (2 ^ width) (rows_at lines table.line) table.inputs nets) table (wire_below (2 ^ width))

-- the places from one on, up to a count, at which the routes ask for no BLE
abbrev pub free_from : ℕ → List (Option ℕ) → ℕ → List ℕ
free_from count routed from = filter (λ place. not (list_any (is_place place) routed)) (range_with_len from (count - from))

-- the line of a BLE's latch
abbrev pub latch_line : List JoinedLine → Arch → Layout → LaidBlock → BlePlace → LaidBle → Latch → ConfigurationLine
latch_line lines arch layout laid place ble latch =
    Stores place (if is_some latch.control then type_in (args_at lines latch.line) else codes "none") (init_in (args_at lines latch.line)) (control_in arch layout laid ble)

-- the lines of a cluster
abbrev pub cluster_lines : List JoinedLine → Circuit → Arch → Layout → LaidBlock → List ConfigurationLine
cluster_lines lines circuit arch layout laid = flat_map (λ ble. ble_lines lines circuit arch layout laid (ble_at arch layout laid ble.0) ble.1) (enumerate_from 0 laid.bles)
