-- The longest path of a netlist, in a line.
use Rattle.std.specs.Prelude.{ℕ, ◌-◌, ◌==◌, List, [], ◌∷◌, ◌++◌, codes, decimal, length, min, nat_lt, slice_get, slice_index_or, Option, Some, None, option_map, if◌then◌else◌}
use Rattle.std.specs.List.{concat, flat_map, range_with_len}
use Rattle.std.specs.Option.{option_map_or}
use Rattle.desk_circuits.specs.Prelude.{LookupTable, Circuit, Longest, Path, NoPath, Loop, LongestPath}
use Rattle.desk_circuits.specs.Json.{end_name, net_name}
use Rattle.desk_circuits.specs.declared.longest.MeasuredCircuit.{MeasuredCircuit}
use Rattle.desk_circuits.specs.declared.loop_line.TheConstants.{MAX_SHOWN}

-- a number with the word for one or for several
abbrev pub count_text : ℕ → List ℕ → List ℕ → List ℕ
count_text number one several = concat (decimal number ∷ (if number == 1 then one else several) ∷ [])

abbrev pub counted_tables : ℕ → List ℕ
counted_tables number = count_text number (codes " table") (codes " tables")

-- the wires, if they are known
abbrev pub wires_part : Option ℕ → List ℕ
wires_part (Some wires) = concat (codes ", " ∷ []) ++ count_text wires (codes " wire") (codes " wires")
wires_part None = []

-- the names of the ends of a path
abbrev pub ends_part : Circuit → LongestPath → List ℕ
ends_part circuit path = concat (codes ": " ∷ net_name circuit path.from ∷ codes " .. " ∷ end_name circuit path.to ∷ codes "\n" ∷ [])

-- a path: the numbers of its tables and wires, and the names of its ends
abbrev pub path_text : Circuit → Option ℕ → LongestPath → List ℕ
path_text circuit wires path = concat (codes "longest path " ∷ []) ++ (counted_tables (length path.tables.items) ++ (wires_part wires ++ ends_part circuit path))

-- a table by the net that it drives and its line in the netlist
abbrev pub driven_name : Circuit → Option LookupTable → List ℕ
driven_name circuit (Some table) = net_name circuit table.output
driven_name circuit None = []

abbrev pub table_line : Option LookupTable → ℕ
table_line (Some table) = table.line
table_line None = 0

abbrev pub table_name : Circuit → ℕ → List ℕ
table_name circuit number = driven_name circuit (slice_get circuit.tables number)

abbrev pub table_text : Circuit → ℕ → List ℕ
table_text circuit number = concat (table_name circuit number ∷ codes " (line " ∷ decimal (table_line (slice_get circuit.tables number)) ∷ codes ") -> " ∷ [])

-- the table of a loop at that place, from the first that drives the next; the numbers are found
-- the last one first
abbrev pub loop_table : List ℕ → ℕ → ℕ
loop_table numbers place = slice_index_or numbers (length numbers - 1 - place) 0

-- the first tables of a loop, each before the next one
abbrev pub loop_tables : Circuit → List ℕ → List ℕ
loop_tables circuit numbers = flat_map (λ place. table_text circuit (loop_table numbers place)) (range_with_len 0 (min (length numbers) MAX_SHOWN))

-- of a long loop the last tables are left out
abbrev pub left_out : ℕ → List ℕ
left_out count = if nat_lt MAX_SHOWN count then concat (codes ".. -> " ∷ []) else []

-- and back to the first table
abbrev pub loop_end : Circuit → Option ℕ → List ℕ
loop_end circuit first = concat (option_map_or (table_name circuit) first [] ∷ codes "\n" ∷ [])

abbrev pub loop_text : Circuit → List ℕ → List ℕ
loop_text circuit numbers =
    concat (codes "longest path: loop of " ∷ []) ++ (counted_tables (length numbers) ++ (concat (codes ": " ∷ []) ++ (loop_tables circuit numbers
    ++ (left_out (length numbers) ++ loop_end circuit (slice_get numbers (length numbers - 1))))))

-- the tables of a loop, if they are known
abbrev pub known_loop : Circuit → Option (List ℕ) → List ℕ
known_loop circuit (Some numbers) = loop_text circuit numbers
known_loop circuit None = concat (codes "longest path: some tables form a loop\n" ∷ [])

-- the longest path; or the loop, or that there is no path
abbrev pub longest_text : MeasuredCircuit → Longest → List ℕ
longest_text measured (Path path) = path_text measured.circuit measured.wires path
longest_text measured NoPath = concat (codes "longest path none\n" ∷ [])
longest_text measured Loop = known_loop measured.circuit (option_map (λ tables. tables.items) measured.looped)

abbrev pub measured_line : MeasuredCircuit → List ℕ
measured_line measured = longest_text measured measured.longest

-- the line of a name; it has none if the circuit is not known
abbrev pub longest_line : List ℕ → Option MeasuredCircuit → List ℕ
longest_line name (Some measured) = concat (name ∷ codes ": " ∷ []) ++ measured_line measured
longest_line name None = []

-- the longest path, if there is one, and the number of its tables
abbrev pub path_in : Longest → Option LongestPath
path_in (Path path) = Some path
path_in NoPath = None
path_in Loop = None

abbrev pub path_tables : MeasuredCircuit → Option ℕ
path_tables measured = option_map (λ path. length path.tables.items) (path_in measured.longest)

-- the tables and the wires of the path of a circuit, if it is known
abbrev pub tables_if_known : Option MeasuredCircuit → Option ℕ
tables_if_known (Some measured) = path_tables measured
tables_if_known None = None

abbrev pub wires_if_known : Option MeasuredCircuit → Option ℕ
wires_if_known (Some measured) = measured.wires
wires_if_known None = None
