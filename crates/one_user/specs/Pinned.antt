-- A netlist whose pads have the places of pins.
use Rattle.std.specs.Prelude.{ℕ, ◌≡◌, ◌+◌, ◌<◌, ◌≤◌, ◌⊎◌, List, Result, Ok, Err, Option, Some, None}
use Rattle.one_user.specs.Prelude.{arch_of, Arch, MAX_TRACKS, PackedCircuit, IterEnd, Pin, IsPinned, PinFault, Basis, PlacingUnderWay, places_by_block, device_strip, ending_of, Ending, net_text_of, place_text_of}
use Rattle.pathfinder.specs.declared.routing.IterEnd.TheVariants as iteration
use Rattle.pinned_places.specs.Pads.{pads_of}
use Rattle.tenant_slot.specs.declared.failure.RoutingFailure.TheVariants.{NoPath as FailedNet}
use Rattle.tenant_slot.specs.declared.reply.Ending.TheVariants.{GaveUp}
use Rattle.one_user.specs.PlacedRuns.{IsRunOn, nets_on_device}
use Rattle.one_user.specs.RoutingEnds.{IsRoutes, IsRoutingEnd}
use Rattle.one_user.specs.Tracks.{ComesTo, IsFirstTry, IsPlacedWith}
use Rattle.one_user.specs.declared.device.Request.{Request}
use Rattle.one_user.specs.declared.least.DevicePlan.{DevicePlan}
use Rattle.one_user.specs.declared.least.FirstTry.{FirstTry}
use Rattle.one_user.specs.declared.outcome.FlowOutcome.TheVariants as outcome
use Rattle.one_user.specs.declared.outcome.Run.{Run}
use Rattle.one_user.specs.declared.outcome.Unrouted.{Unrouted}
use Rattle.one_user.specs.declared.pinned.PinnedEnd.{PinnedEnd}
use Rattle.one_user.specs.declared.pinned.PinnedEnd.TheVariants.{Placed, NeverRouted, Refused, NotPinned}
use Rattle.one_user.specs.declared.pinned.PinnedPlacing.{PinnedPlacing}
use Rattle.one_user.specs.declared.pinned.PinnedPlacing.TheVariants as placing

-- how a routing without routes ended, as replies have it
abbrev pub IsEnding : PackedCircuit → IterEnd → Ending → Type 0
IsEnding packed (iteration.GaveUp routing) ending = ending ≡ GaveUp
IsEnding packed (iteration.NoPath net) ending = ending ≡ ending_of packed (FailedNet net)
IsEnding packed end ending = ⊥

-- Private: the run of a placing whose routing ended so, without routes
pub record IsLeftBy (placed : PlacingUnderWay) (end : IterEnd) (run : Run) : Type 0 where
  pub left : Unrouted
  pub is : run.outcome ≡ outcome.Unrouted left
  pub ending : IsEnding placed.packed end left.ending
  pub net : left.net ≡ net_text_of placed.packed
  pub places : left.places ≡ place_text_of placed.strip placed.packed (places_by_block placed)
  pub figures : run.figures ≡ None

-- what there is of a placing whose routing on the device ended without routes
pub record IsLeftOn (basis : Basis) (placed : PlacingUnderWay) (left : Unrouted) : Type 0 where
  pub end : IterEnd
  pub is_end : IsRoutingEnd basis (nets_on_device basis placed) end
  pub ending : IsEnding placed.packed end left.ending
  pub net : left.net ≡ net_text_of placed.packed
  pub places : left.places ≡ place_text_of placed.strip placed.packed (places_by_block placed)

-- the run of a placing on a device: with the routes that the routing of the placing ends with, or
-- without routes
pub record IsUnroutedOn (basis : Basis) (placed : PlacingUnderWay) (run : Run) : Type 0 where
  pub left : Unrouted
  pub is : run.outcome ≡ outcome.Unrouted left
  pub on : IsLeftOn basis placed left
  pub figures : run.figures ≡ None

abbrev pub IsWholeRun : Basis → PlacingUnderWay → Run → Type 0
IsWholeRun basis placed run = IsRunOn basis placed (Some run) ⊎ IsUnroutedOn basis placed run

-- the netlist's placing, with the pads of the pins on their places
pub record IsPinnedWith (plan : DevicePlan) (request : Request) (pins : List Pin) (placed : PlacingUnderWay) : Type 0 where
  pub free : PlacingUnderWay
  pub first : IsPlacedWith plan request free
  pub pinned : IsPinned free pins placed

-- the device of a plan with that number of tracks
abbrev pub IsDevice : DevicePlan → ℕ → Basis → Type 0
IsDevice plan tracks basis = (arch : Arch) × (arch_of plan.text.now tracks ≡ Ok arch) × (basis ≡ record { arch = arch; strip = device_strip arch plan.columns plan.rows })

-- with that number of tracks, the placing has that run
abbrev pub RunsWith : DevicePlan → ℕ → PlacingUnderWay → Run → Type 0
RunsWith plan tracks placed run = (basis : Basis) × IsDevice plan tracks basis × IsWholeRun basis placed run

-- a pin can't be met
pub record IsNotPinned (plan : DevicePlan) (request : Request) (pins : List Pin) (fault : PinFault) : Type 0 where
  pub free : PlacingUnderWay
  pub first : IsPlacedWith plan request free
  pub refused : pads_of free.packed free.strip pins ≡ Err fault

-- the result of a netlist with pins, with that number of tracks
abbrev pub IsPinnedRun : DevicePlan → Request → List Pin → ℕ → PinnedEnd → Type 0
IsPinnedRun plan request pins tracks (Placed used run) = (used ≡ tracks) × ((placed : PlacingUnderWay) × IsPinnedWith plan request pins placed × RunsWith plan tracks placed run)
IsPinnedRun plan request pins tracks NeverRouted = ⊥
IsPinnedRun plan request pins tracks (Refused refusal) = ComesTo plan request 1 (outcome.Refused refusal)
IsPinnedRun plan request pins tracks (NotPinned fault) = IsNotPinned plan request pins fault

-- with that number of tracks, the routing of the placing ends with this run, or without routes
abbrev pub IsTryOn : DevicePlan → PlacingUnderWay → ℕ → Option Run → Type 0
IsTryOn plan placed tracks run = (basis : Basis) × IsDevice plan tracks basis × IsRunOn basis placed run

abbrev pub IsLeftWith : DevicePlan → PlacingUnderWay → ℕ → Type 0
IsLeftWith plan placed tracks = IsTryOn plan placed tracks None

-- each number of tracks below the limit is too few for the nets that cross a column, or was tried,
-- and the routing ended without routes
pub record AreTooFewBelow (plan : DevicePlan) (placed : PlacingUnderWay) (limit : ℕ) : Type 0 where
  pub first : FirstTry
  pub is_first : IsFirstTry plan placed first
  pub tried : (tracks : ℕ) → first.tracks ≤ tracks → tracks < limit → IsLeftWith plan placed tracks

-- the result of a netlist with pins, with the least number of tracks
abbrev pub IsLeastPinned : DevicePlan → Request → List Pin → PinnedEnd → Type 0
IsLeastPinned plan request pins (Placed tracks run) =
    (placed : PlacingUnderWay) × IsPinnedWith plan request pins placed × IsTryOn plan placed tracks (Some run) × AreTooFewBelow plan placed tracks
IsLeastPinned plan request pins NeverRouted = (placed : PlacingUnderWay) × IsPinnedWith plan request pins placed × AreTooFewBelow plan placed (MAX_TRACKS + 1)
IsLeastPinned plan request pins (Refused refusal) = ComesTo plan request 1 (outcome.Refused refusal)
IsLeastPinned plan request pins (NotPinned fault) = IsNotPinned plan request pins fault

-- Private: the netlist is placed with its pads on their places, or refused, or a pin can't be met
abbrev pub IsPinnedPlacing : DevicePlan → Request → List Pin → PinnedPlacing → Type 0
IsPinnedPlacing plan request pins (placing.Placed placed) = IsPinnedWith plan request pins placed
IsPinnedPlacing plan request pins (placing.Refused refusal) = ComesTo plan request 1 (outcome.Refused refusal)
IsPinnedPlacing plan request pins (placing.NotPinned fault) = IsNotPinned plan request pins fault
