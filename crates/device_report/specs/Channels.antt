-- How full channels are.
use Rattle.std.specs.Prelude.{ℕ, ◌≡◌, ◌+◌, ◌*◌, ◌/◌, ◌%◌, List, take, map, filter, count_by, Bool, true, false, ◌&&◌, ◌==◌, nat_lt, if◌then◌else◌}
use Rattle.std.specs.List.{range_with_len}
use Rattle.std.specs.List.Sorted.{IsPermutation, IsSortedBy, IsStableBy}
use Rattle.rr_graph.specs.declared.resource.ResourceKind.{ResourceKind}
use Rattle.rr_graph.specs.declared.resource.ResourceKind.TheVariants.{ChanX, ChanY}
use Rattle.device_lines.specs.declared.device.OwnedResource.{OwnedResource}
use Rattle.device_report.specs.declared.channels.ChannelDirection.{ChannelDirection}
use Rattle.device_report.specs.declared.channels.ChannelDirection.TheVariants.{Across, Up}
use Rattle.device_report.specs.declared.channels.ChannelUse.{ChannelUse}
use Rattle.device_report.specs.declared.channels.TheConstants.{MAX_SHOWN}

-- a wire of a channel above a row, or right of a column
abbrev pub is_wire : ChannelDirection → ResourceKind → Bool
is_wire Across ChanX = true
is_wire Up ChanY = true
is_wire direction other = false

-- how many wires of a channel are owned
abbrev pub wires_in : List OwnedResource → ChannelDirection → ℕ → ℕ → ℕ
wires_in owned direction x y = count_by (λ one. is_wire direction one.node.kind && (one.node.x == x) && (one.node.y == y)) owned

-- the channel of that number, in node order: column by column, first those above its rows, from row
-- 0, and then those right of it
abbrev pub channel_at : ℕ → List OwnedResource → ℕ → ChannelUse
channel_at rows owned number =
    let lines = rows + 1 in
    let x = number / (2 * lines) in
    let direction = if nat_lt (number % (2 * lines)) lines then Across else Up in
    let y = number % lines in
    record { x = x; direction = direction; y = y; wires = wires_in owned direction x y }

-- the channels of a device that have owned wires, in node order
abbrev pub channels_in : ℕ → ℕ → List OwnedResource → List ChannelUse
channels_in columns rows owned =
    filter (λ channel. nat_lt 0 channel.wires) (map (channel_at rows owned) (range_with_len 0 ((columns + 1) * (2 * (rows + 1)))))

-- one channel has more owned wires than the other
abbrev pub is_fuller : ChannelUse → ChannelUse → Bool
is_fuller a b = nat_lt b.wires a.wires

-- the first ten of the sorted channels: the fuller one first, and equally full ones in their
-- original order
pub record AreFullest (channels shown : List ChannelUse) : Type 0 where
  pub sorted : List ChannelUse
  pub same : IsPermutation channels sorted
  pub falling : IsSortedBy is_fuller sorted
  pub stable : IsStableBy is_fuller channels sorted
  pub first : shown ≡ take MAX_SHOWN sorted
