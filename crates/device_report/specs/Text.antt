-- The report as a text.
use Rattle.std.specs.Prelude.{ℕ, List, [], ◌∷◌, ◌++◌, codes, decimal, flat_map, Bool, if◌then◌else◌, Option, Some, None}
use Rattle.std.specs.List.{concat}
use Rattle.std.specs.Str.{bytes_eq}
use Rattle.device_lines.specs.declared.tenancy.Tenancy.{Tenancy}
use Rattle.device_report.specs.declared.channels.ChannelDirection.{ChannelDirection}
use Rattle.device_report.specs.declared.channels.ChannelDirection.TheVariants.{Across, Up}
use Rattle.device_report.specs.declared.channels.ChannelUse.{ChannelUse}
use Rattle.device_report.specs.declared.columns.ColumnUse.{ColumnUse}
use Rattle.device_report.specs.declared.report.Report.{Report}
use Rattle.device_report.specs.declared.tenancies.ResourceUse.{ResourceUse}
use Rattle.device_report.specs.declared.tenancies.TenancyUse.{TenancyUse}
use Rattle.device_report.specs.declared.widest.Room.{Room}

-- a tenancy in the state Routed: no other one owns anything
abbrev pub is_routed : Tenancy → Bool
is_routed tenancy = bytes_eq tenancy.state.now (codes "Routed")

-- the number of resources of one kind that it uses; `-` if it isn't routed
abbrev pub used_text : Tenancy → ResourceUse → List ℕ
used_text tenancy resources = if is_routed tenancy then decimal resources.used else codes "-"

-- the line of a tenancy: its id, its name, its strip's offset and width, its state, and for each
-- kind the numbers of used and of all
abbrev pub tenancy_line : TenancyUse → List ℕ
tenancy_line uses = concat (
    codes "tenancy " ∷ decimal uses.tenancy.id ∷ codes " " ∷ uses.tenancy.name.now
    ∷ codes " offset " ∷ decimal uses.tenancy.offset ∷ codes " width " ∷ decimal uses.tenancy.width ∷ codes " " ∷ uses.tenancy.state.now
    ∷ codes " blocks " ∷ used_text uses.tenancy uses.blocks ∷ codes "/" ∷ decimal uses.blocks.there
    ∷ codes " pads " ∷ used_text uses.tenancy uses.pads ∷ codes "/" ∷ decimal uses.pads.there
    ∷ codes " across " ∷ used_text uses.tenancy uses.across ∷ codes "/" ∷ decimal uses.across.there
    ∷ codes " up " ∷ used_text uses.tenancy uses.up ∷ codes "/" ∷ decimal uses.up.there ∷ codes "\n" ∷ [])

-- the line of columns
abbrev pub columns_line : ℕ → ColumnUse → List ℕ
columns_line columns counts = concat (
    codes "columns " ∷ decimal columns ∷ codes " used " ∷ decimal counts.used ∷ codes " guard " ∷ decimal counts.guard
    ∷ codes " free " ∷ decimal counts.free ∷ codes "\n" ∷ [])

-- the line of the widest strip
abbrev pub widest_line : Option Room → List ℕ
widest_line (Some room) = concat (codes "widest " ∷ decimal room.width ∷ codes " offset " ∷ decimal room.offset ∷ codes "\n" ∷ [])
widest_line None = concat (codes "widest none\n" ∷ [])

-- the word for a channel
abbrev pub channel_word : ChannelDirection → List ℕ
channel_word Across = codes "CHANX"
channel_word Up = codes "CHANY"

-- the line of a channel, which has `tracks` tracks
abbrev pub channel_line : ℕ → ChannelUse → List ℕ
channel_line tracks channel = concat (
    channel_word channel.direction ∷ codes " (" ∷ decimal channel.x ∷ codes "," ∷ decimal channel.y ∷ codes ") "
    ∷ decimal channel.wires ∷ codes "/" ∷ decimal tracks ∷ codes "\n" ∷ [])

-- all lines
abbrev pub report_text : Report → List ℕ
report_text report =
    flat_map tenancy_line report.tenancies.items
    ++ (columns_line report.size.columns report.columns ++ (widest_line report.widest ++ flat_map (channel_line report.size.tracks) report.fullest.items))
