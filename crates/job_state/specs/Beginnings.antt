-- When a job may begin.
use Rattle.std.specs.Prelude.{◌≡◌, ◌≤◌, true, false, None, Ok}
use Rattle.job_state.specs.Prelude.{MAX_EFFORT, Circuit, PackedCircuit, unfit_of, fit_of, IsStripSize, Fits, AreKeptOn}
use Rattle.job_state.specs.declared.sources.JobKind.TheVariants.{Placing as PlacingJob, Routing as RoutingJob}
use Rattle.job_state.specs.declared.sources.Sources.{Sources}
use Rattle.job_state.specs.declared.work.Work.TheVariants.{Packed}
use Rattle.job_state.specs.Job.{JobState, is_over}
use Rattle.job_state.specs.JobValue.{circuit_in, end_value, packing_sources, placing_sources}

-- a packing of the netlist's circuit: each BLE fits into a cluster alone
pub record CanPack (sources : Sources) (from : Circuit) : Type 0 where
  pub kind : sources ≡ packing_sources sources.arch sources.strip sources.text
  pub circuit : circuit_in sources ≡ Ok from
  pub fit : unfit_of from sources.arch ≡ None

-- a placing of what that finished packing of the same netlist has made: the strip has enough
-- places, among them those kept for blocks
pub record CanPlace (sources : Sources) (packing : JobState) : Type 0 where
  pub kind : sources.kind ≡ PlacingJob
  pub from : packing.step.sources ≡ packing_sources sources.arch sources.strip sources.text
  pub over : is_over packing ≡ true
  pub put : packing.made ≡ false
  pub size : IsStripSize sources.strip
  pub fit : (packed : PackedCircuit) → end_value packing.step.sources ≡ Ok (Packed packed) → fit_of sources.strip packed ≡ Fits
  pub kept : AreKeptOn sources.strip sources.kept
  pub effort : sources.effort ≤ MAX_EFFORT

-- a routing of what that finished placing of the same netlist, kept places, seed and effort has
-- made
pub record CanRoute (sources : Sources) (placing : JobState) : Type 0 where
  pub kind : sources.kind ≡ RoutingJob
  pub from : placing.step.sources ≡ placing_sources sources.arch sources.strip sources.text sources.kept sources.seed sources.effort
  pub over : is_over placing ≡ true
  pub put : placing.made ≡ false
