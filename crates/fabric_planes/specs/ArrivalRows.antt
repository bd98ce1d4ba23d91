-- Private: the rows of the ends of the wires at the sides of blocks and pads. The columns between
-- the second and the last one have the same rows.
use Rattle.std.specs.Prelude.{ℕ, ◌+◌, ◌-◌, ◌*◌, ◌/◌, ◌%◌, ◌==◌, min, Bool, List, map, if◌then◌else◌}
use Rattle.std.specs.List.{range_with_len}
use Rattle.fabric_planes.specs.Prelude.{Sink, Node, is_node, Basis, make_node}
use Rattle.fabric_planes.specs.declared.arrival_rows.ArrivalRows.{ArrivalRows}
use Rattle.fabric_planes.specs.Ends.{AreRowsBelow}
use Rattle.fabric_planes.specs.Layout.{band_of}
use Rattle.fabric_planes.specs.declared.ends.Listed.{Listed}
use Rattle.fabric_planes.specs.Sides.{side_kind, rows_less, columns_less}

-- the number of the column that has the rows of a column: the first, the second, the last, or the
-- third one for all others
abbrev pub index_of : ℕ → ℕ → ℕ
index_of width x = if x == width then 3 else min (x - 1) 2

-- the column with such a number
abbrev pub column_of : ℕ → ℕ → ℕ
column_of width index = if index == 3 then width else index + 1

-- the wire of a track at a side of a sink's block or pad
abbrev pub wire_beside : Node → ℕ → ℕ → Node
wire_beside sink side track = make_node (sink.x - columns_less side) (side_kind side) (sink.y - rows_less side) track

-- the row of a sink that the strip doesn't have is empty
abbrev pub arrival_if : Bool → Node → ℕ → ℕ → Listed
arrival_if there sink side track = record { view = record { track = track; node = sink }; node = if there then wire_beside sink side track else sink }

abbrev pub arrival_for : Basis → Node → ℕ → ℕ → Listed
arrival_for basis sink side track = arrival_if (is_node basis.arch basis.strip sink) sink side track

-- what the row with this number is for
abbrev pub arrival_in : Basis → ℕ → ℕ → ℕ → ℕ → Listed
arrival_in basis site index side track = arrival_for basis (make_node (column_of basis.strip.width index) Sink (site / basis.strip.io_rat) (site % basis.strip.io_rat)) side track

abbrev pub arrival_at : Basis → ℕ → Listed
arrival_at basis number = arrival_in basis (number / basis.arch.tracks / 4 / 4) (number / basis.arch.tracks / 4 % 4) (number / basis.arch.tracks % 4) (number % basis.arch.tracks)

-- the number of rows
abbrev pub row_count : Basis → ℕ
row_count basis = band_of basis * basis.strip.io_rat * 16 * basis.arch.tracks

-- for each pad and row of blocks, for the columns that differ, for each side and each track the
-- ends of the wire there
abbrev pub AreArrivalRows : Basis → ArrivalRows → Type 0
AreArrivalRows basis arrivals = AreRowsBelow basis (arrival_at basis) (row_count basis) arrivals.rows

-- the row of the first track's wire at a side of the sink's block or pad
abbrev pub first_row : Basis → Node → ℕ → ℕ
first_row basis sink side = (((sink.y * basis.strip.io_rat + sink.n) * 4 + index_of basis.strip.width sink.x) * 4 + side) * basis.arch.tracks

abbrev pub first_rows : Basis → Node → List ℕ
first_rows basis sink = map (first_row basis sink) (range_with_len 0 4)
