-- What `route` is asked for, and how it runs.
use Rattle.std.specs.Prelude.{ℕ, ◌≡◌, ◌+◌, List, Option, Some, None, Ok, MatchOption, ⊤}
use Rattle.desk_netlists.specs.Prelude.{arch_of, Arch, MAX_TRACKS, IsBeginning, NamedBytes, AreCounts, HasRoom, NoColumnsBelow, NoRowsBelow, NoSquareBelow, task_on, IsLeastPinned, IsPinnedRun, AreUnroutedBelow, ComesTo, Request, PackedCounts, DevicePlan, Run, PinnedEnd, Placed, Pin, pins_in, device_strip}
use Rattle.desk_netlists.specs.Written.{AreWritten, IsStem}
use Rattle.desk_netlists.specs.declared.route.TheConstants.{MAX_READ}
use Rattle.desk_netlists.specs.declared.route_job.RouteJob.{RouteJob}
use Rattle.desk_netlists.specs.declared.route_size.Sized.{Sized}
use Rattle.desk_netlists.specs.declared.route_size.Sized.TheVariants.{Size as Fits, Refused}
use Rattle.desk_netlists.specs.declared.route_wishes.GivenSize.{GivenSize}
use Rattle.desk_netlists.specs.declared.route_wishes.RouteWishes.{RouteWishes}
use Rattle.desk_netlists.specs.declared.route_wishes.Size.{Size}
use Rattle.desk_netlists.specs.declared.route_wishes.Size.TheVariants.{Given, LeastSquare, LeastColumns, LeastRows}
use Rattle.desk_netlists.specs.declared.route_wishes.Tracks.{Tracks}
use Rattle.desk_netlists.specs.declared.route.Trial.{Trial}
use Rattle.desk_netlists.specs.declared.route.Trial.TheVariants.{Decided, NeverRouted}

-- the device that a job is routed on
abbrev pub plan_of : RouteJob → DevicePlan
plan_of job = record { text = job.arch; columns = job.size.columns; rows = job.size.rows }

-- the netlist has these counts once it is packed, and a column has that many pads at each end
pub record ArePackedCounts (arch : List ℕ) (request : Request) (counts : PackedCounts) (io_rat : ℕ) : Type 0 where
  pub read : Arch
  pub is_read : arch_of arch 1 ≡ Ok read
  pub counted : AreCounts (task_on (record { arch = read; strip = device_strip read 1 1 }) request.netlist.now request.seed request.effort) counts
  pub pads : io_rat ≡ read.io_rat

-- a size has room for these counts, and is the least one that has
abbrev pub IsLeastSize : Size → PackedCounts → ℕ → GivenSize → Type 0
IsLeastSize (Given given) counts io_rat size = size ≡ given
IsLeastSize LeastSquare counts io_rat size = (size.rows ≡ size.columns) × HasRoom counts io_rat size.columns size.rows × NoSquareBelow counts io_rat size.columns
IsLeastSize (LeastColumns rows) counts io_rat size = (size.rows ≡ rows) × HasRoom counts io_rat size.columns size.rows × NoColumnsBelow counts io_rat rows size.columns
IsLeastSize (LeastRows columns) counts io_rat size = (size.columns ≡ columns) × HasRoom counts io_rat size.columns size.rows × NoRowsBelow counts io_rat columns size.rows

-- the least size for a netlist
pub record IsLeastFor (asked : Size) (arch : List ℕ) (request : Request) (size : GivenSize) : Type 0 where
  pub counts : PackedCounts
  pub io_rat : ℕ
  pub packed : ArePackedCounts arch request counts io_rat
  pub least : IsLeastSize asked counts io_rat size

-- the size that is asked for: the given one, or the least on which the packed netlist has room
abbrev pub IsSizeFor : Size → List ℕ → Request → GivenSize → Type 0
IsSizeFor (Given given) arch request size = size ≡ given
IsSizeFor asked arch request size = IsLeastFor asked arch request size

-- private: a size that is found is one like that
abbrev pub IsSizedBy : (GivenSize → Type 0) → Sized → Type 0
IsSizedBy like (Fits size) = like size
IsSizedBy like (Refused refusal) = ⊤

-- private: a size that is found is the one that is asked for
abbrev pub IsSized : Size → List ℕ → Request → Sized → Type 0
IsSized asked arch request sized = IsSizedBy (IsSizeFor asked arch request) sized

-- What is to be routed, on which device, and the name of its files. `text` gives the text of a file
-- by its path, if that is known.
pub record IsJobOf (text : List ℕ → Option (List ℕ)) (wishes : RouteWishes) (job : RouteJob) : Type 0 where
  pub arch : IsBeginning (text wishes.arch.now) MAX_READ job.arch.now
  pub netlist : IsBeginning (text wishes.netlist.now) MAX_READ job.request.netlist.now
  pub seed : job.request.seed ≡ wishes.seed
  pub effort : job.request.effort ≡ wishes.effort
  pub size : IsSizeFor wishes.size job.arch.now job.request job.size
  pub folder : job.wishes.folder ≡ wishes.folder
  pub extras : job.wishes.extras ≡ wishes.extras
  pub name : IsStem wishes.netlist.now job.name.now

-- the run with the number of tracks that is asked for, or else with the least one with which the
-- netlist isn't left unrouted
abbrev pub IsFreeRun : RouteJob → Option Tracks → Run → Type 0
IsFreeRun job (Some tracks) run = ComesTo (plan_of job) job.request tracks.number run.outcome
IsFreeRun job None run = (tracks : ℕ) × ComesTo (plan_of job) job.request tracks run.outcome × AreUnroutedBelow (plan_of job) job.request tracks

-- the result of a netlist with pins, with the number of tracks that is asked for, or with the least
abbrev pub IsPinnedEnd : RouteJob → List Pin → Option Tracks → PinnedEnd → Type 0
IsPinnedEnd job pins (Some tracks) end = IsPinnedRun (plan_of job) job.request pins tracks.number end
IsPinnedEnd job pins None end = IsLeastPinned (plan_of job) job.request pins end

-- the run whose pads have the places of the pins in a file
pub record IsRunByFile (known : Option (List ℕ)) (job : RouteJob) (asked : Option Tracks) (run : Run) : Type 0 where
  pub bytes : List ℕ
  pub read : IsBeginning known MAX_READ bytes
  pub pins : List Pin
  pub said : pins_in bytes ≡ Ok pins
  pub tracks : ℕ
  pub pinned : IsPinnedEnd job pins asked (Placed tracks run)

-- the run of a job
abbrev pub IsRunOf : (List ℕ → Option (List ℕ)) → RouteWishes → RouteJob → Run → Type 0
IsRunOf text wishes job run = MatchOption wishes.pins (IsFreeRun job wishes.tracks run) (λ path. IsRunByFile (text path.now) job wishes.tracks run)

-- private: what trying numbers of tracks results in
abbrev pub IsTrial : RouteJob → Option Tracks → Trial → Type 0
IsTrial job asked (Decided run) = IsFreeRun job asked run
IsTrial job asked NeverRouted = AreUnroutedBelow (plan_of job) job.request (MAX_TRACKS + 1)

-- the job is run, the netlist is routed, and exactly its files are written
pub record IsRouted (text : List ℕ → Option (List ℕ)) (wishes : RouteWishes) (job : RouteJob) (old new : Option (List NamedBytes)) : Type 0 where
  pub run : Run
  pub is_run : IsRunOf text wishes job run
  pub written : AreWritten job run.outcome old new

-- The netlist is routed as the wishes ask, and exactly its files are written, each under the
-- netlist's name in the folder.
pub record IsDone (text : List ℕ → Option (List ℕ)) (wishes : RouteWishes) (old new : Option (List NamedBytes)) : Type 0 where
  pub job : RouteJob
  pub asked : IsJobOf text wishes job
  pub routed : IsRouted text wishes job old new
