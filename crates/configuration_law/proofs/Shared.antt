-- The configurations of two tenancies name nothing in common.
use Rattle.std.proofs.Common.{◌≡◌, ◌≢◌, ℕ, List, Some, inl, inr}
use Rattle.blif.specs.declared.circuit.Circuit.{Circuit}
use Rattle.configuration.proofs.OwnThings.{are_apart}
use Rattle.configuration.specs.Configuration.{configuration_of}
use Rattle.configuration.specs.Things.{ShareNothing}
use Rattle.grid.specs.Sizes.{IsStripSize}
use Rattle.implements.specs.Implements.{Implements}
use Rattle.implements.specs.Layouts.{Layout}
use Rattle.line_text.specs.Lines.{JoinedLine}
use Rattle.service_core.proofs.Parted.{are_parted}
use Rattle.service_core.specs.Headline.{AreParted}
use Rattle.service_core.specs.Run.{Call, Run}
use Rattle.service_core.specs.Service.{ServiceState, empty_service, strip_on}
use Rattle.service_core.specs.declared.device.Device.{Device}
use Rattle.strips.proofs.Laid.{apart_of}
use Rattle.strips.specs.Plan.{strip_of}
use Rattle.strips.specs.declared.placed_strip.PlacedStrip.{PlacedStrip}

pub share_nothing : (device : Device) (calls : List Call) (state : ServiceState) → Run (empty_service device) calls state → (id other : ℕ) (strip its : PlacedStrip) → id ≢ other →
    strip_of state.plan.strips id ≡ Some strip → strip_of state.plan.strips other ≡ Some its → IsStripSize (strip_on device strip.width) → IsStripSize (strip_on device its.width) →
    (lines others : List JoinedLine) (circuit other_circuit : Circuit) (layout other_layout : Layout) →
    Implements circuit device.arch (strip_on device strip.width) layout → Implements other_circuit device.arch (strip_on device its.width) other_layout →
    ShareNothing strip.offset (configuration_of lines circuit device.arch (strip_on device strip.width) layout) its.offset (configuration_of others other_circuit device.arch (strip_on device its.width) other_layout)
share_nothing device calls state run id other strip its differ found its_found size its_size lines others circuit other_circuit layout other_layout h its_h =
    let parted : AreParted device state = are_parted device calls state run in
    elim (apart_of state.plan id other strip its parted.parted found its_found differ) [
      | inl before ↦ are_apart lines others circuit other_circuit device.arch device.arch (strip_on device strip.width) (strip_on device its.width) layout other_layout strip.offset its.offset size its_size h its_h before
      | inr after ↦ (λ line other_line c d thing e f. are_apart others lines other_circuit circuit device.arch device.arch (strip_on device its.width) (strip_on device strip.width) other_layout layout its.offset strip.offset its_size size its_h h after other_line line d c thing f e)
    ]
