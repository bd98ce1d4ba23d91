-- The least number of tracks with which a netlist is routed.
use Rattle.std.specs.Prelude.{ℕ, ◌≡◌, ◌+◌, ◌*◌, ◌<◌, ◌≤◌, List, Result, Ok, Err, Option, Some, None}
use Rattle.one_user.specs.Prelude.{MAX_EFFORT, MAX_COLUMNS, MAX_ROWS, MAX_TRACKS, IsWithin, arch_of, Arch, ArchFault, Circuit, Place, pass_count, placing_at, PlacingUnderWay, places_by_block, device_strip, IsBusiest}
use Rattle.one_user.specs.Crowding.{IsCrowdingOf}
use Rattle.one_user.specs.Figures.{HasFigures}
use Rattle.one_user.specs.Outcomes.{Task, outcome_of, placing_of}
use Rattle.one_user.specs.Placing.{IsPlacing}
use Rattle.one_user.specs.declared.crowding.Crowding.{Crowding}
use Rattle.one_user.specs.declared.placing.PlacingEnd.{PlacingEnd}
use Rattle.one_user.specs.declared.placing.PlacingEnd.TheVariants as placing
use Rattle.one_user.specs.declared.device.Request.{Request}
use Rattle.one_user.specs.declared.figures.Figures.{Figures}
use Rattle.one_user.specs.declared.least.DevicePlan.{DevicePlan}
use Rattle.one_user.specs.declared.least.FirstTry.{FirstTry}
use Rattle.one_user.specs.declared.least.Least.{Least}
use Rattle.one_user.specs.declared.least.Least.TheVariants.{Routed, Refused, Unrouted}
use Rattle.one_user.specs.declared.outcome.FlowOutcome.{FlowOutcome}
use Rattle.one_user.specs.declared.outcome.FlowOutcome.TheVariants as outcome
use Rattle.one_user.specs.declared.outcome.Run.{Run}

-- the device has 1 to 256 columns and 1 to 64 rows, and the effort is at most 100
pub record IsLawful (plan : DevicePlan) (request : Request) : Type 0 where
  pub columns : IsWithin 1 plan.columns MAX_COLUMNS
  pub rows : IsWithin 1 plan.rows MAX_ROWS
  pub effort : request.effort ≤ MAX_EFFORT

-- the task of a request on a device of that architecture
abbrev pub task_for : DevicePlan → Arch → Request → Task
task_for plan arch request = record { arch = arch; strip = device_strip arch plan.columns plan.rows; text = request.netlist.now; seed = request.seed; effort = request.effort }

-- with that number of tracks, the request has that outcome
abbrev pub ComesTo : DevicePlan → Request → ℕ → FlowOutcome → Type 0
ComesTo plan request tracks told = (arch : Arch) × (arch_of plan.text.now tracks ≡ Ok arch) × (told ≡ outcome_of (task_for plan arch request))

-- with that number of tracks, the circuit has these figures
abbrev pub HasFiguresWith : DevicePlan → Request → ℕ → Figures → Type 0
HasFiguresWith plan request tracks figures = (arch : Arch) × (arch_of plan.text.now tracks ≡ Ok arch) × HasFigures (task_for plan arch request) figures

-- the fault of an architecture
abbrev pub fault_of : Result Arch ArchFault → Option ArchFault
fault_of (Ok arch) = None
fault_of (Err fault) = Some fault

-- the outcome is routed, unrouted, refused
abbrev pub WasRouted : FlowOutcome → Type 0
WasRouted (outcome.Routed files) = Unit {0}
WasRouted (outcome.Unrouted ending) = ⊥
WasRouted (outcome.Refused refusal) = ⊥

abbrev pub WasUnrouted : FlowOutcome → Type 0
WasUnrouted (outcome.Unrouted ending) = Unit {0}
WasUnrouted (outcome.Routed files) = ⊥
WasUnrouted (outcome.Refused refusal) = ⊥

abbrev pub WasRefused : FlowOutcome → Type 0
WasRefused (outcome.Refused refusal) = Unit {0}
WasRefused (outcome.Routed files) = ⊥
WasRefused (outcome.Unrouted ending) = ⊥

-- with that number of tracks, the netlist is routed by that run, and its circuit has the run's
-- figures
abbrev pub IsRoutedBy : DevicePlan → Request → ℕ → Run → Type 0
IsRoutedBy plan request tracks run = ComesTo plan request tracks run.outcome × WasRouted run.outcome × ((figures : Figures) × (run.figures ≡ Some figures) × HasFiguresWith plan request tracks figures)

-- with each number of tracks below the limit it is left unrouted
abbrev pub AreUnroutedBelow : DevicePlan → Request → ℕ → Type 0
AreUnroutedBelow plan request limit = (tracks : ℕ) → 1 ≤ tracks → tracks < limit → (told : FlowOutcome) × ComesTo plan request tracks told × WasUnrouted told

-- the result of the search: the least number of tracks with which it is routed; or the refusal with
-- the least number with which it isn't left unrouted; or neither for any number
abbrev pub IsLeast : DevicePlan → Request → Least → Type 0
IsLeast plan request (Routed tracks run) = (1 ≤ tracks) × (tracks ≤ MAX_TRACKS) × IsRoutedBy plan request tracks run × AreUnroutedBelow plan request tracks
IsLeast plan request (Refused run) = (tracks : ℕ) × (1 ≤ tracks) × (tracks ≤ MAX_TRACKS) × ComesTo plan request tracks run.outcome × WasRefused run.outcome × AreUnroutedBelow plan request tracks
IsLeast plan request Unrouted = AreUnroutedBelow plan request (MAX_TRACKS + 1)

-- with that number of tracks it is left unrouted
abbrev pub StaysUnrouted : DevicePlan → Request → ℕ → Type 0
StaysUnrouted plan request tracks = (told : FlowOutcome) × ComesTo plan request tracks told × WasUnrouted told

-- with that number of tracks, this is the crowding of the routing, if there is one
abbrev pub IsCrowdingWith : DevicePlan → Request → ℕ → Option Crowding → Type 0
IsCrowdingWith plan request tracks crowding = (arch : Arch) × (arch_of plan.text.now tracks ≡ Ok arch) × IsCrowdingOf (task_for plan arch request) crowding

-- Private: the netlist is packed and placed for one of the numbers of tracks
abbrev pub IsPlacedWith : DevicePlan → Request → PlacingUnderWay → Type 0
IsPlacedWith plan request placed = (tracks : ℕ) × (arch : Arch) × (arch_of plan.text.now tracks ≡ Ok arch) × IsPlacing (task_for plan arch request) placed

-- Private: the first try is with the least number of tracks, from 1 to the limit, with which each
-- net that crosses the busiest column has a horizontal wire over it; if no number is enough, it is
-- one past the limit
pub record IsFirstTry (plan : DevicePlan) (placed : PlacingUnderWay) (first : FirstTry) : Type 0 where
  pub crossing : IsBusiest placed.packed (places_by_block placed) plan.columns first.crossing
  pub low : 1 ≤ first.tracks
  pub high : first.tracks ≤ MAX_TRACKS + 1
  pub enough : first.tracks ≤ MAX_TRACKS → first.crossing.nets ≤ (plan.rows + 1) * first.tracks
  pub too_few : (tracks : ℕ) → 1 ≤ tracks → tracks < first.tracks → (plan.rows + 1) * tracks < first.crossing.nets

-- Private: it is packed and placed, or refused with one track
abbrev pub IsPlacedOrRefused : DevicePlan → Request → PlacingEnd → Type 0
IsPlacedOrRefused plan request (placing.Placed placed) = IsPlacedWith plan request placed
IsPlacedOrRefused plan request (placing.Refused refusal) = ComesTo plan request 1 (outcome.Refused refusal)

-- Private: the result of a try with that number of tracks: the run if the netlist is routed
abbrev pub IsTry : DevicePlan → Request → ℕ → Option Run → Type 0
IsTry plan request tracks (Some run) = IsRoutedBy plan request tracks run
IsTry plan request tracks None = StaysUnrouted plan request tracks

-- the places of a circuit's blocks, on a device of that architecture
abbrev pub places_for : DevicePlan → Arch → Request → Circuit → List Place
places_for plan arch request circuit =
    places_by_block (placing_at (placing_of (task_for plan arch request)) circuit (pass_count (task_for plan arch request).strip))
