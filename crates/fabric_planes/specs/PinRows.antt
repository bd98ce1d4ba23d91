-- The rows of the ends of sources, sinks and pins: those of the first column.
use Rattle.std.specs.Prelude.{◌≡◌, ℕ, zero, suc, ◌==◌, ◌+◌, ◌-◌, ◌*◌, ◌/◌, ◌%◌, ◌&&◌, List, map, if◌then◌else◌}
use Rattle.std.specs.List.{range_with_len}
use Rattle.fabric_planes.specs.Prelude.{Strip, NodeKind, Source, Sink, Opin, Ipin, Node, is_block_row, meets, Basis, make_node}
use Rattle.fabric_planes.specs.declared.ends.Listed.{Listed}
use Rattle.fabric_planes.specs.declared.pin_rows.PinRows.{PinRows}
use Rattle.fabric_planes.specs.ArrivalRows.{wire_beside}
use Rattle.fabric_planes.specs.Ends.{AreRowsBelow}
use Rattle.fabric_planes.specs.Layout.{pins_of, band_of}

-- ---- rows

-- the kind of the node with this index among those of a row with one number: a source, a sink, an
-- input pin, and for each track an output pin
abbrev pub kind_at : ℕ → NodeKind
kind_at zero = Source
kind_at (suc zero) = Sink
kind_at (suc (suc zero)) = Ipin
kind_at (suc (suc (suc more))) = Opin

-- the first index of a kind
abbrev pub index_of : NodeKind → ℕ
index_of Source = 0
index_of Sink = 1
index_of Ipin = 2
index_of _ = 3

-- by how much the row of the next track differs
abbrev pub rows_per_track : NodeKind → ℕ
rows_per_track Opin = 1
rows_per_track _ = 0

-- a node of the first column in a track's plane, and its block or pad: a block has one sink, with
-- number 0
abbrev pub listed_by : Strip → NodeKind → ℕ → ℕ → ℕ → Listed
listed_by strip kind y n track = record { view = record { track = track; node = make_node 1 kind y (if is_block_row strip y then 0 else n) }; node = make_node 1 kind y n }

-- what the row with this number is for
abbrev pub listed_in : Basis → ℕ → ℕ → Listed
listed_in basis pin index = listed_by basis.strip (kind_at index) (pin / pins_of basis) (pin % pins_of basis) (index - 3)

abbrev pub listed_at : Basis → ℕ → Listed
listed_at basis number = listed_in basis (number / (basis.arch.tracks + 3)) (number % (basis.arch.tracks + 3))

-- the number of rows
abbrev pub row_count : Basis → ℕ
row_count basis = band_of basis * pins_of basis * (basis.arch.tracks + 3)

-- the number of a pin among those of a column
abbrev pub pin_number : Basis → ℕ → ℕ → ℕ
pin_number basis y n = y * pins_of basis + n

-- the row of a node in the first track's plane
abbrev pub first_row : Basis → Node → ℕ
first_row basis node = pin_number basis node.y node.n * (basis.arch.tracks + 3) + index_of node.kind

-- ---- pins and tracks

-- 0 for a track that an output pin meets on a side, and more than costs count for the others
abbrev pub apart_by : Basis → ℕ → ℕ → ℕ → ℕ → ℕ
apart_by basis y n side track =
    if (side == 1) && (y == 0) then 20000
    else if meets basis.arch basis.strip (make_node 1 Opin y n) (wire_beside (make_node 1 Opin y n) side track) then 0 else 20000

-- by pin, side and track
abbrev pub apart_at : Basis → ℕ → ℕ
apart_at basis at = apart_by basis (at / basis.arch.tracks / 4 / pins_of basis) (at / basis.arch.tracks / 4 % pins_of basis) (at / basis.arch.tracks % 4) (at % basis.arch.tracks)

abbrev pub apart_count : Basis → ℕ
apart_count basis = band_of basis * pins_of basis * 4 * basis.arch.tracks

abbrev pub aparts : Basis → List ℕ
aparts basis = map (apart_at basis) (range_with_len 0 (apart_count basis))

-- the rows are those of the strip
pub record ArePinRows (basis : Basis) (pins : PinRows) : Type 0 where
  pub rows : AreRowsBelow basis (listed_at basis) (row_count basis) pins.rows
  pub apart : pins.apart.items ≡ aparts basis
