-- Nodes of the routing graph as text.
use Rattle.std.specs.Prelude.{ℕ, Bool, true, false, ◌||◌, ◌==◌, nat_lt, List, ◌++◌, codes, decimal}
use Rattle.vpr_files.specs.Prelude.{Node, NodeKind, Source, Sink, Opin, Ipin, ChanX, ChanY}
use Rattle.vpr_files.specs.TextLines.{word_after_space}

abbrev pub kind_word : NodeKind → List ℕ
kind_word Source = codes "SOURCE"
kind_word Sink = codes "SINK"
kind_word Opin = codes "OPIN"
kind_word Ipin = codes "IPIN"
kind_word ChanX = codes "CHANX"
kind_word ChanY = codes "CHANY"

-- the word before a node's number: tracks in channels, pads in a row of pads, otherwise classes or
-- pins
abbrev pub number_word : NodeKind → Bool → List ℕ
number_word ChanX pad = codes "Track:"
number_word ChanY pad = codes "Track:"
number_word kind true = codes "Pad:"
number_word Source false = codes "Class:"
number_word Sink false = codes "Class:"
number_word kind false = codes "Pin:"

-- a column and a row
abbrev pub position_text : ℕ → ℕ → List ℕ
position_text x y = codes "(" ++ decimal x ++ codes "," ++ decimal y ++ codes ")"

-- a node of a strip or device with this number of rows: its kind, its position, and its number.
-- Pads are in row 0 and above the last row
unfoldable pub node_text_of : ℕ → Node → List ℕ
node_text_of rows node =
    kind_word node.kind ++ word_after_space (position_text node.x node.y) ++ word_after_space (number_word node.kind ((node.y == 0) || nat_lt rows node.y)) ++ word_after_space (decimal node.n)
