-- What a tenancy uses of its strip.
use Rattle.std.specs.Prelude.{ℕ, ◌+◌, ◌*◌, ◌/◌, ◌%◌, List, count_by, Bool, true, false, ◌&&◌, ◌==◌}
use Rattle.std.specs.List.{list_any, range_with_len}
use Rattle.rr_graph.specs.declared.resource.ResourceKind.{ResourceKind}
use Rattle.rr_graph.specs.declared.resource.ResourceKind.TheVariants.{Opin, Ipin, Pad}
use Rattle.device_lines.specs.declared.device.OwnedResource.{OwnedResource}
use Rattle.device_lines.specs.declared.size.DeviceSize.{DeviceSize}
use Rattle.device_lines.specs.declared.tenancy.Tenancy.{Tenancy}
use Rattle.device_report.specs.declared.channels.ChannelDirection.{ChannelDirection}
use Rattle.device_report.specs.declared.channels.ChannelDirection.TheVariants.{Across, Up}
use Rattle.device_report.specs.declared.tenancies.TenancyUse.{TenancyUse}
use Rattle.device_report.specs.Channels.{is_wire}

-- a pin of a block or of a pad
abbrev pub is_pin : ResourceKind → Bool
is_pin Opin = true
is_pin Ipin = true
is_pin other = false

abbrev pub is_pad : ResourceKind → Bool
is_pad Pad = true
is_pad other = false

-- a pin of that block is owned
abbrev pub has_pin : List OwnedResource → ℕ → ℕ → Bool
has_pin owned x y = list_any (λ one. is_pin one.node.kind && (one.node.x == x) && (one.node.y == y)) owned

-- how many blocks in `width` columns, after the first `offset`, have an owned pin; the blocks are
-- numbered column by column
abbrev pub blocks_used : List OwnedResource → ℕ → ℕ → ℕ → ℕ
blocks_used owned rows offset width = count_by (λ block. has_pin owned (offset + 1 + block / rows) (1 + block % rows)) (range_with_len 0 (width * rows))

-- how many pads a tenancy owns
abbrev pub pads_used : List OwnedResource → ℕ → ℕ
pads_used owned id = count_by (λ one. (one.owner == id) && is_pad one.node.kind) owned

-- how many wires of that direction a tenancy owns
abbrev pub wires_used : List OwnedResource → ChannelDirection → ℕ → ℕ
wires_used owned direction id = count_by (λ one. (one.owner == id) && is_wire direction one.node.kind) owned

-- what a tenancy uses, and what its strip has: a strip has one more channel right of a column than
-- columns, and one more above a row than rows
abbrev pub use_of : DeviceSize → List OwnedResource → Tenancy → TenancyUse
use_of size owned tenancy = record {
  tenancy = tenancy;
  blocks = record { used = blocks_used owned size.rows tenancy.offset tenancy.width; there = tenancy.width * size.rows };
  pads = record { used = pads_used owned tenancy.id; there = tenancy.width * 2 * size.pads };
  across = record { used = wires_used owned Across tenancy.id; there = tenancy.width * (size.rows + 1) * size.tracks };
  up = record { used = wires_used owned Up tenancy.id; there = (tenancy.width + 1) * size.rows * size.tracks };
}
