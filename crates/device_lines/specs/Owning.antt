-- Which tenancy may own which node.
use Rattle.std.specs.Prelude.{◌≡◌, ◌+◌, ◌≤◌, List, All, Contains}
use Rattle.device_lines.specs.Prelude.{Resource, ChanY}
use Rattle.device_lines.specs.declared.device.ListedDevice.{ListedDevice}
use Rattle.device_lines.specs.declared.device.OwnedResource.{OwnedResource}
use Rattle.device_lines.specs.declared.tenancy.Tenancy.{Tenancy}

-- a node is in a column of the strip, or in the vertical channel before its first column
abbrev pub IsInStrip : Tenancy → Resource → Type 0
IsInStrip tenancy node =
    (tenancy.offset ≤ node.x) × (node.x ≤ tenancy.offset + tenancy.width) × (node.x ≡ tenancy.offset → node.kind ≡ ChanY)

-- a node is in the strip of the listed tenancy with its owner's id
abbrev pub IsOwners : List Tenancy → OwnedResource → Type 0
IsOwners tenancies owned =
    (tenancy : Tenancy) × (Contains tenancies tenancy × (tenancy.id ≡ owned.owner) × IsInStrip tenancy owned.node)

-- this holds for each owned node of a device
abbrev pub AreOwners : ListedDevice → Type 0
AreOwners device = All (IsOwners device.tenancies.items) device.owned.items
