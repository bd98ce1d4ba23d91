-- A strip's window on its device: which of the device's nodes are the strip's.
use Rattle.std.specs.Prelude.{ℕ, ◌≡◌, ◌+◌, ◌-◌, ◌⊎◌, Bool, ◌&&◌, ◌==◌, true, nat_le, Option, Some, None, if◌then◌else◌}
use Rattle.arch_file.specs.declared.arch.Arch.{Arch}
use Rattle.grid.specs.declared.Strip.{Strip}
use Rattle.rr_graph.specs.declared.node.NodeKind.{NodeKind}
use Rattle.rr_graph.specs.declared.node.NodeKind.TheVariants.{Source, Sink, Opin, Ipin, ChanX, ChanY}
use Rattle.rr_graph.specs.declared.node.Node.{Node}
use Rattle.rr_graph.specs.Geometry.{is_node, is_edge, node_at_offset}
use Rattle.rr_graph.specs.Graph.{Basis}
use Rattle.strips.specs.declared.placed_strip.PlacedStrip.{PlacedStrip}

-- the device is a strip of all its columns; a strip on it has `width` of them, and all rows
abbrev pub strip_of_width : Strip → ℕ → Strip
strip_of_width device width = record device { width = width }

-- the node, moved that number of columns to the left
abbrev pub moved_back : ℕ → Node → Node
moved_back offset node = record { x = node.x - offset; kind = node.kind; y = node.y; n = node.n }

-- a device node in a strip's own columns; `None` if it lies left of them
abbrev pub in_strip_columns : ℕ → Node → Option Node
in_strip_columns offset node = if nat_le offset node.x then Some (moved_back offset node) else None

-- the device node is one of the strip's nodes, moved to the strip's offset
abbrev pub is_in_window : Arch → Strip → PlacedStrip → Node → Bool
is_in_window arch device strip node = nat_le strip.offset node.x && is_node arch (strip_of_width device strip.width) (moved_back strip.offset node)

-- a pin, or a wire above a row
abbrev pub IsPinOrAcross : NodeKind → Type 0
IsPinOrAcross Source = ⊥
IsPinOrAcross Sink = ⊥
IsPinOrAcross Opin = Unit {0}
IsPinOrAcross Ipin = Unit {0}
IsPinOrAcross ChanX = Unit {0}
IsPinOrAcross ChanY = ⊥

-- a pin, or a wire above a row, in one of the two columns beside the strip
pub record IsBeside (strip : PlacedStrip) (node : Node) : Type 0 where
  pub kind : IsPinOrAcross node.kind
  pub column : (node.x ≡ strip.offset) ⊎ (node.x ≡ strip.offset + strip.width + 1)

-- the device as a strip of all its columns
abbrev pub device_strip : Arch → ℕ → ℕ → Strip
device_strip arch columns rows = record { width = columns; rows = rows; io_rat = arch.io_rat }

-- the device has the strip, of at least one column, at that offset
abbrev pub is_on_device : Strip → Strip → ℕ → Bool
is_on_device device strip offset =
    nat_le 1 strip.width && ((strip.rows == device.rows) && ((strip.io_rat == device.io_rat) && nat_le (offset + strip.width) device.width))

-- the strip's graph shows what the device's graph has in the strip's columns: two of its nodes form
-- an edge exactly if they form one on the device
abbrev pub Shows : Basis → ℕ → Basis → Type 0
Shows device offset strip = (a b : Node) → is_node strip.arch strip.strip a ≡ true → is_node strip.arch strip.strip b ≡ true →
    is_edge device.arch device.strip (node_at_offset offset a) (node_at_offset offset b) ≡ is_edge strip.arch strip.strip a b
