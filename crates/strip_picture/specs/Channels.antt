-- How many tracks of each channel are used.
use Rattle.std.specs.Prelude.{ℕ, ◌≡◌, ◌+◌, ◌*◌, ◌/◌, ◌%◌, ◌<◌, ◌≤◌, List, length, map, count_by, cond, Bool, true, false, ◌&&◌, ◌==◌, eqb}
use Rattle.std.specs.List.{list_any, range_with_len, slice_index}
use Rattle.std.specs.Int.{bit_at}
use Rattle.grid.specs.declared.TheConstants.{MAX_COLUMNS, MAX_ROWS}
use Rattle.rr_graph.specs.declared.node.NodeKind.{NodeKind}
use Rattle.rr_graph.specs.declared.node.NodeKind.TheVariants.{Source, Sink, Opin, Ipin, ChanX, ChanY}
use Rattle.picture_lines.specs.declared.lattice.Direction.{Direction}
use Rattle.picture_lines.specs.declared.lattice.Direction.TheVariants.{Across, Up}
use Rattle.strip_files.specs.declared.route_node.RouteNode.{RouteNode}
use Rattle.strip_files.specs.declared.size.StripSize.{StripSize}
use Rattle.strip_picture.specs.declared.channels.ChannelTracks.{ChannelTracks}
use Rattle.arch_file.specs.declared.arch.TheConstants.{MAX_TRACKS}
use Rattle.strip_picture.specs.declared.channels.TheConstants.{CHANNELS}

-- whether it is a wire of a channel of that direction
abbrev pub goes : NodeKind → Direction → Bool
goes ChanX Across = true
goes ChanX Up = false
goes ChanY Across = false
goes ChanY Up = true
goes Source direction = false
goes Sink direction = false
goes Opin direction = false
goes Ipin direction = false

-- whether a node is the wire of that track of a channel
abbrev pub is_wire : Direction → ℕ → ℕ → ℕ → RouteNode → Bool
is_wire direction x y track read = goes read.node.kind direction && (read.node.x == x) && (read.node.y == y) && (read.node.n == track)

-- how many tracks of a channel the nodes use: the number of tracks with a node as their wire
unfoldable pub tracks_in : Direction → ℕ → ℕ → List RouteNode → ℕ
tracks_in direction x y nodes = count_by (λ track. list_any (is_wire direction x y track) nodes) (range_with_len 0 MAX_TRACKS)

-- a channel, and how many of its tracks are used
abbrev pub use_of : List RouteNode → Direction → ℕ → ℕ → ChannelTracks
use_of nodes direction x y = record { direction = direction; x = x; y = y; tracks = tracks_in direction x y nodes }

-- the channels above rows, column by column from column 1, in each from row 0
abbrev pub across_uses : StripSize → List RouteNode → List ChannelTracks
across_uses size nodes =
    map (λ number. use_of nodes Across (number / (size.rows + 1) + 1) (number % (size.rows + 1))) (range_with_len 0 (size.columns * (size.rows + 1)))

-- the channels right of columns, column by column from column 0, in each from row 1
abbrev pub up_uses : StripSize → List RouteNode → List ChannelTracks
up_uses size nodes =
    map (λ number. use_of nodes Up (number / size.rows) (number % size.rows + 1)) (range_with_len 0 ((size.columns + 1) * size.rows))

-- private: the number of a channel among all of the largest strip
abbrev pub channel_number : Direction → ℕ → ℕ → ℕ
channel_number Across x y = 2 * (65 * x + y)
channel_number Up x y = 2 * (65 * x + y) + 1

-- private: a node isn't a wire
abbrev pub IsNoWire : RouteNode → Type 0
IsNoWire read = (direction : Direction) (x y track : ℕ) → y ≤ MAX_ROWS → track < MAX_TRACKS → is_wire direction x y track read ≡ false

-- private: a node is a wire of the channel of that number, and of no other
pub record IsWireOf (read : RouteNode) (number : ℕ) : Type 0 where
  pub within : number < CHANNELS
  pub small : read.node.n < MAX_TRACKS
  pub only : (direction : Direction) (x y track : ℕ) → y ≤ MAX_ROWS
      → is_wire direction x y track read ≡ (eqb number (channel_number direction x y) && eqb read.node.n track)

-- private: in the numbers of all channels exactly the bits of the used tracks are set
pub record HasTracks (nodes : List RouteNode) (used : List ℕ) : Type 0 where
  pub long : length used ≡ CHANNELS
  pub bits : (direction : Direction) (x y track : ℕ) → x ≤ MAX_COLUMNS → y ≤ MAX_ROWS → track < MAX_TRACKS
      → bit_at (slice_index used (channel_number direction x y)) track ≡ cond (list_any (is_wire direction x y track) nodes) 1 0
