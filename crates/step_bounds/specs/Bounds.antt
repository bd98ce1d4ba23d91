-- How many steps a job makes at most, and how many entries of its journal a whole flow takes.
use Rattle.std.specs.Prelude.{ℕ, ◌≡◌, ◌+◌, ◌≤◌, IfOk}
use Rattle.blif.specs.declared.circuit.TheConstants.{MAX_NETS}
use Rattle.pathfinder.specs.declared.routing.TheConstants.{MAX_ITERATIONS}
use Rattle.grid.specs.declared.TheConstants.{MAX_COLUMNS, MAX_ROWS}
use Rattle.arch_file.specs.Arch.{IsArch}
use Rattle.blif.specs.LawfulCircuits.{IsCircuit}
use Rattle.grid.specs.declared.Strip.{Strip}
use Rattle.job_state.specs.declared.sources.JobKind.{JobKind}
use Rattle.job_state.specs.declared.sources.JobKind.TheVariants.{Packing, Placing, Routing}
use Rattle.job_state.specs.declared.sources.Sources.{Sources}
use Rattle.job_state.specs.JobValue.{circuit_in, step_count}

-- a packing makes a cluster a step, and a netlist has at most 8,192 BLEs; a placing makes a pass a
-- step, and the last one comes after at most as many as the strip has columns and rows; a routing
-- makes at most 30 iterations
abbrev pub most_steps : JobKind → Strip → ℕ
most_steps Packing strip = MAX_NETS
most_steps Placing strip = strip.width + strip.rows + 1
most_steps Routing strip = MAX_ITERATIONS

-- the architecture and the netlist are ones that were read: `read_arch` and `read_blif` give no
-- others
pub record AreRead (sources : Sources) : Type 0 where
  pub arch : IsArch sources.arch
  pub circuit : IfOk (circuit_in sources) IsCircuit

-- no job makes more steps
abbrev pub AreFew : Type 0
AreFew = (sources : Sources) → AreRead sources → step_count sources ≤ most_steps sources.kind sources.strip

-- the entries of an upload, of three commands, and of the steps of their jobs
abbrev pub flow_entries : Sources → Sources → Sources → ℕ
flow_entries packing placing routing = 4 + step_count packing + step_count placing + step_count routing

-- on the largest device there are few of them
abbrev pub FlowIsShort : Type 0
FlowIsShort = (packing placing routing : Sources) → packing.kind ≡ Packing → placing.kind ≡ Placing → routing.kind ≡ Routing → AreRead packing → AreRead placing → AreRead routing →
    placing.strip.width ≤ MAX_COLUMNS → placing.strip.rows ≤ MAX_ROWS → flow_entries packing placing routing ≤ 8547
