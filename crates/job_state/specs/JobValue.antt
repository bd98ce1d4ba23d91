-- The value of a job: what it has made after a number of its steps, as a function of its sources.
use Rattle.std.specs.Prelude.{ℕ, Bool, true, false, List, [], Result, Ok, Err, nat_lt, if◌then◌else◌}
use Rattle.std.specs.List.{position_or_len, range_with_len}
use Rattle.job_state.specs.Prelude.{Arch, circuit_of, Circuit, BlifFault, packed_of, packing_steps, Strip, KeptPlaces, Routed as RoutedTrees, Standing, More, Done, GaveUp as GivenUp, NoPath as WithoutPath, routed_after, nets_to_route, wiring_of, routes_by_node, Net, Basis, graph_of, Resource, PlacingUnderWay, is_past_last, places_by_block}
use Rattle.job_state.specs.declared.sources.JobKind.{JobKind}
use Rattle.job_state.specs.declared.sources.JobKind.TheVariants.{Packing as PackingJob, Placing as PlacingJob, Routing as RoutingJob}
use Rattle.job_state.specs.declared.sources.Sources.{Sources}
use Rattle.job_state.specs.declared.work.Work.{Work}
use Rattle.job_state.specs.declared.work.Work.TheVariants.{Packing, Packed, Placing, Placed, Routing, Unlisted, Routed, GaveUp, NoPath}
use Rattle.job_state.specs.RoutedCircuits.{pads_of}

-- the sources of a packing: it has no kept places, no seed and no effort
abbrev pub packing_sources : Arch → Strip → List ℕ → Sources
packing_sources arch strip text = record { kind = PackingJob; arch = arch; strip = strip; text = text; kept = []; seed = 0; effort = 0 }

-- the sources of a placing
abbrev pub placing_sources : Arch → Strip → List ℕ → KeptPlaces → ℕ → ℕ → Sources
placing_sources arch strip text kept seed effort = record { kind = PlacingJob; arch = arch; strip = strip; text = text; kept = kept; seed = seed; effort = effort }

-- the sources of a routing: the kept places, the seed and the effort are those of its placing
abbrev pub routing_sources : Arch → Strip → List ℕ → KeptPlaces → ℕ → ℕ → Sources
routing_sources arch strip text kept seed effort = record { kind = RoutingJob; arch = arch; strip = strip; text = text; kept = kept; seed = seed; effort = effort }

-- the circuit of the netlist, or its fault
abbrev pub circuit_in : Sources → Result Circuit BlifFault
circuit_in sources = circuit_of sources.text sources.arch.lut_size

-- a placing of the packed circuit after that number of passes
abbrev pub placing_at : Sources → Circuit → ℕ → PlacingUnderWay
placing_at sources circuit passes = record { packed = packed_of circuit sources.arch; strip = sources.strip; kept = sources.kept; seed = sources.seed; effort = sources.effort; passes = passes }

-- the largest number of steps that is counted; every job makes fewer
unfoldable pub step_limit : ℕ
step_limit = 65536

-- the number of passes of a placing: with it, and not before, the pass at temperature 0 was made
unfoldable pub pass_count : Strip → ℕ
pass_count strip = position_or_len (is_past_last strip) (range_with_len 0 step_limit)

-- the basis of a routing's graph
abbrev pub basis_in : Sources → Basis
basis_in sources = record { arch = sources.arch; strip = sources.strip }

-- the nets of a routing, between the places at the end of its placing
unfoldable pub nets_in : Sources → Circuit → List Net
nets_in sources circuit = nets_to_route (basis_in sources) (packed_of circuit sources.arch) (places_by_block (placing_at sources circuit (pass_count sources.strip)))

-- the pads of its blocks, at the same places
unfoldable pub pads_in : Sources → Circuit → List Resource
pads_in sources circuit = pads_of (packed_of circuit sources.arch) (places_by_block (placing_at sources circuit (pass_count sources.strip)))

-- a routing makes one iteration a step; while it goes on it keeps its trees, and at its end it
-- gives them by node
abbrev pub routing_stands : Basis → List Resource → List Net → ℕ → RoutedTrees → Standing → Work
routing_stands basis pads nets iterations routed More = Routing (record { basis = basis; pads = pads; state = record { nets = nets; iterations = iterations; trees = routed.trees; history = routed.history } })
routing_stands basis pads nets iterations routed Done = Routed (record { basis = basis; routes = routes_by_node (graph_of basis) routed.trees; pads = pads })
routing_stands basis pads nets iterations routed GivenUp = GaveUp
routing_stands basis pads nets iterations routed (WithoutPath net) = NoPath net

abbrev pub routing_after : Basis → List Resource → List Net → ℕ → Work
routing_after basis pads nets iterations = routing_stands basis pads nets iterations (routed_after (wiring_of basis) nets iterations) (routed_after (wiring_of basis) nets iterations).standing

-- a job of that kind after that number of steps. A packing makes one cluster a step, and is whole
-- after its last step; a placing makes one pass a step, and is whole after the pass at temperature
-- 0
abbrev pub work_of : JobKind → Sources → Circuit → ℕ → Work
work_of PackingJob sources circuit steps =
    if nat_lt steps (packing_steps circuit sources.arch) then Packing (record { circuit = circuit; arch = sources.arch; made = steps }) else Packed (packed_of circuit sources.arch)
work_of PlacingJob sources circuit steps = if is_past_last sources.strip steps then Placed (placing_at sources circuit steps) else Placing (placing_at sources circuit steps)
work_of RoutingJob sources circuit steps = routing_after (basis_in sources) (pads_in sources circuit) (nets_in sources circuit) steps

abbrev pub value_of : Sources → Result Circuit BlifFault → ℕ → Result Work BlifFault
value_of sources (Ok circuit) steps = Ok (work_of sources.kind sources circuit steps)
value_of sources (Err fault) steps = Err fault

-- what a job has made after that number of steps, or the fault of its netlist
abbrev pub job_value : Sources → ℕ → Result Work BlifFault
job_value sources steps = value_of sources (circuit_in sources) steps

-- a work with no step left to make
abbrev pub is_whole : Work → Bool
is_whole (Packing packing) = false
is_whole (Placing placing) = false
is_whole (Routing routing) = false
is_whole (Unlisted routed) = false
is_whole work = true

abbrev pub is_whole_value : Result Work BlifFault → Bool
is_whole_value (Ok work) = is_whole work
is_whole_value (Err fault) = true

-- the job is over with the step of that number
abbrev pub is_last : Sources → ℕ → Bool
is_last sources number = is_whole_value (job_value sources number)

-- the number of steps that the job makes: the least number with which it is over
unfoldable pub step_count : Sources → ℕ
step_count sources = position_or_len (is_last sources) (range_with_len 0 step_limit)

-- what the job has made at its end
abbrev pub end_value : Sources → Result Work BlifFault
end_value sources = job_value sources (step_count sources)
