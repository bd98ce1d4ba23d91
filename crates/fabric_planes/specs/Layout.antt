-- The planes of a strip's routing graph: where nodes are in them, and what they show of a net.
use Rattle.std.specs.Prelude.{◌≡◌, ℕ, ◌+◌, ◌*◌, ◌^◌, ◌<◌, ◌≤◌, Bool, true, Option, Some, None, List, length, All, ◌&&◌, ◌==◌}
use Rattle.fabric_planes.specs.Prelude.{NodeKind, Source, Sink, Opin, Ipin, ChanX, ChanY, Node, Strip, is_together, Basis, graph_of, Graph, Family}
use Rattle.fabric_planes.specs.Labels.{Labels, family_of}

-- ---- the places of a column

-- at least the number of a block's pins, and of the pads at an end of a column
abbrev pub pins_of : Basis → ℕ
pins_of basis = length basis.arch.pins + basis.strip.io_rat

-- the rows, with those of the pads
abbrev pub band_of : Basis → ℕ
band_of basis = basis.strip.rows + 2

-- A column has places for a source, a sink, output pins, input pins, the horizontal wires of each
-- row, and the vertical ones. Before and after the places of wires of one direction there are as
-- many unused ones, so the difference of two wires' places tells where they are from each other.
abbrev pub level_at : Basis → ℕ
level_at basis = 2 + 2 * pins_of basis + band_of basis

abbrev pub upright_at : Basis → ℕ
upright_at basis = level_at basis + 2 * band_of basis

-- the number of places of a column
abbrev pub stride_of : Basis → ℕ
stride_of basis = level_at basis + 4 * band_of basis

-- the place at this offset in a column: two unused columns come before the first
abbrev pub in_column : Basis → ℕ → ℕ → ℕ
in_column basis x offset = (x + 2) * stride_of basis + offset

abbrev pub place_count : Basis → ℕ
place_count basis = (basis.strip.width + 3) * stride_of basis

-- the offset of a node in its column
abbrev pub offset_of : Basis → NodeKind → Node → ℕ
offset_of basis Source node = 0
offset_of basis Sink node = 1
offset_of basis Opin node = 2 + node.n
offset_of basis Ipin node = 2 + pins_of basis + node.n
offset_of basis ChanX node = level_at basis + node.y
offset_of basis ChanY node = upright_at basis + node.y

-- the place of a node that is shown
abbrev pub place_of : Basis → Node → ℕ
place_of basis node = in_column basis node.x (offset_of basis node.kind node)

-- ---- what a net's planes show

-- a net's source and one of its sinks
pub record Terminals : Type 0 where
  pub source : Node
  pub sink : Node

-- the two nodes have the same column, row and number
abbrev pub is_same_spot : Node → Node → Bool
is_same_spot a b = (a.x == b.x) && ((a.y == b.y) && (a.n == b.n))

-- the net's source, the output pins of its block or pad, the wires of the track, the input pins of
-- the sink's block or pad, and the sink
abbrev pub shows : Strip → Terminals → ℕ → NodeKind → Node → Bool
shows strip t track Source node = is_same_spot node t.source
shows strip t track Sink node = is_same_spot node t.sink
shows strip t track Opin node = is_together strip t.source node
shows strip t track Ipin node = is_together strip node t.sink
shows strip t track ChanX node = node.n == track
shows strip t track ChanY node = node.n == track

-- the track of a wire
abbrev pub track_by : NodeKind → ℕ → Option ℕ
track_by ChanX n = Some n
track_by ChanY n = Some n
track_by _ n = None

-- the strip's graph at these costs
abbrev pub graph_at : Basis → (ℕ → ℕ) → Graph
graph_at basis cost = record { count = (graph_of basis).count; ends = (graph_of basis).ends; cost = cost }

-- the strip's graph at these costs, with some starts and a goal
unfoldable pub labels_of : Basis → (ℕ → ℕ) → List ℕ → ℕ → Terminals → Labels
labels_of basis cost starts goal t = record {
  whole = graph_at basis cost;
  starts = starts;
  goal = goal;
  tracks = basis.arch.tracks;
  track_of = λ number. track_by ((graph_of basis).node number).kind ((graph_of basis).node number).n;
  places = place_count basis;
  is_shown = λ track number. shows basis.strip t track ((graph_of basis).node number).kind ((graph_of basis).node number);
  place = λ number. place_of basis ((graph_of basis).node number);
}

-- the planes of the strip's graph at these costs, with some starts and a goal
abbrev pub planes_of : Basis → (ℕ → ℕ) → List ℕ → ℕ → Terminals → Family
planes_of basis cost starts goal t = family_of (labels_of basis cost starts goal t)

-- ---- what is required

-- each node costs from 1 to 2^36
pub record AreCosts (basis : Basis) (cost : ℕ → ℕ) : Type 0 where
  pub some : (number : ℕ) → number < (graph_of basis).count → 1 ≤ cost number
  pub few : (number : ℕ) → number < (graph_of basis).count → cost number ≤ 2 ^ 36

-- if the node is a source, it is the net's, and if it is an output pin, it is one of the source's
-- block or pad
pub record IsStart (basis : Basis) (t : Terminals) (number : ℕ) : Type 0 where
  pub within : number < (graph_of basis).count
  pub source : ((graph_of basis).node number).kind ≡ Source → is_same_spot ((graph_of basis).node number) t.source ≡ true
  pub output : ((graph_of basis).node number).kind ≡ Opin → is_together basis.strip t.source ((graph_of basis).node number) ≡ true

-- the goal is the sink
pub record AreTerminals (basis : Basis) (goal : ℕ) (t : Terminals) : Type 0 where
  pub goal_within : goal < (graph_of basis).count
  pub goal_is : (graph_of basis).node goal ≡ t.sink
  pub kind : t.sink.kind ≡ Sink

-- a search of a net's path
pub record IsNetSearch (basis : Basis) (cost : ℕ → ℕ) (starts : List ℕ) (goal : ℕ) (t : Terminals) : Type 0 where
  pub costs : AreCosts basis cost
  pub starts_are : All (IsStart basis t) starts
  pub terminals : AreTerminals basis goal t
