-- No switch of the device joins what two tenancies own.
use Rattle.std.specs.Prelude.{ℕ, ◌≡◌, ◌≢◌, false, Some}
use Rattle.rr_graph.specs.declared.node.Node.{Node}
use Rattle.rr_graph.specs.declared.resource.Resource.{Resource}
use Rattle.rr_graph.specs.Geometry.{is_edge}
use Rattle.rr_graph.specs.Resources.{resource_of}
use Rattle.strips.specs.Windows.{device_strip}
use Rattle.service_core.specs.declared.device.Device.{Device}
use Rattle.service_core.specs.Owners.{IsOwner}
use Rattle.service_core.specs.Service.{ServiceState}

-- no pair of the device's graph leads from a pin or a wire of one tenancy to one of another
abbrev pub AreUntouched : Device → ServiceState → Type 0
AreUntouched device state = (a b : Node) (mine its : Resource) (id other : ℕ) → resource_of a ≡ Some mine → resource_of b ≡ Some its →
    IsOwner state mine id → IsOwner state its other → id ≢ other → is_edge device.arch (device_strip device.arch device.columns device.rows) a b ≡ false
