-- The lines of nodes in a `.route` file, and their nodes.
use Rattle.std.specs.Prelude.{ℕ, ◌≡◌, Bool, List, [], ◌∷◌, ◌++◌, filter, length, codes, eqb, Some}
use Rattle.std.specs.List.{list_any, starts_with}
use Rattle.strip_files.specs.Prelude.{decimal_of, physical_lines, Node, NodeKind, Source, Sink, Opin, Ipin, ChanX, ChanY}
use Rattle.strip_files.specs.EachLine.{AddsNext, AreEachFrom}
use Rattle.strip_files.specs.declared.node_line.Counted.{Counted}
use Rattle.strip_files.specs.declared.node_line.Counted.TheVariants.{Tracks, Pins, Pads, Classes}
use Rattle.strip_files.specs.declared.route_node.RouteNode.{RouteNode}

-- the beginning of the line of a node of that kind
abbrev pub kind_start : NodeKind → List ℕ
kind_start Source = codes "SOURCE ("
kind_start Sink = codes "SINK ("
kind_start Opin = codes "OPIN ("
kind_start Ipin = codes "IPIN ("
kind_start ChanX = codes "CHANX ("
kind_start ChanY = codes "CHANY ("

abbrev pub kind_starts : List (List ℕ)
kind_starts = kind_start Source ∷ kind_start Sink ∷ kind_start Opin ∷ kind_start Ipin ∷ kind_start ChanX ∷ kind_start ChanY ∷ []

-- whether a line has the beginning of a node's
abbrev pub is_node_line : List ℕ → Bool
is_node_line line = list_any (λ start. starts_with eqb line start) kind_starts

-- the word between the row and the number, by what the number counts
abbrev pub counted_word : Counted → List ℕ
counted_word Tracks = codes ") Track: "
counted_word Pins = codes ") Pin: "
counted_word Pads = codes ") Pad: "
counted_word Classes = codes ") Class: "

-- the rest after the beginning has the node's column, row and number, in decimal digits
pub record IsTailOf (tail : List ℕ) (node : Node) : Type 0 where
  pub column : List ℕ
  pub row : List ℕ
  pub counted : Counted
  pub number : List ℕ
  pub text : tail ≡ column ++ (codes "," ++ (row ++ (counted_word counted ++ number)))
  pub x : decimal_of 32 column ≡ Some node.x
  pub y : decimal_of 32 row ≡ Some node.y
  pub n : decimal_of 32 number ≡ Some node.n

-- the line of a node
pub record IsNodeLine (line : List ℕ) (node : Node) : Type 0 where
  pub tail : List ℕ
  pub text : line ≡ kind_start node.kind ++ tail
  pub told : IsTailOf tail node

-- the lines of a text with the beginning of a node's
abbrev pub node_lines : List ℕ → List (List ℕ)
node_lines text = filter is_node_line (physical_lines text)

-- the line of that node
abbrev pub IsLineOfNode : ℕ → List ℕ → RouteNode → Type 0
IsLineOfNode number line read = IsNodeLine line read.node

-- each of the lines is that of one of the nodes, in order
abbrev pub AreTold : List (List ℕ) → List RouteNode → Type 0
AreTold lines nodes = AreEachFrom IsLineOfNode 0 lines nodes

-- private: the line's node is read
abbrev pub IsReadOn : List ℕ → List RouteNode → List RouteNode → Type 0
IsReadOn line old new = AddsNext (is_node_line line) (IsLineOfNode (length old) line) old new
