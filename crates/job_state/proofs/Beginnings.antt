-- What jobs start from.
use Rattle.job_state.proofs.Prelude.{ℕ, ◌≡◌, ◌+◌, ◌<◌, ◌≤◌, true, false, List, Result, Ok, IfOk, arith, refl, sym, ap, ◌∙◌, Arch, Circuit, BlifFault, PackedCircuit, PackingUnderWay, packed_of, packing_steps, Strip, Place, routed_after, nets_to_route, RoutingState, Basis, Resource, PlacingUnderWay, is_past_last, places_by_block, Packing as PackingJob, Placing as PlacingJob, Sources, Packed, Placed, Routing, basis_in, circuit_in, end_value, step_count, is_last, job_value, nets_in, pads_in, packing_sources, pass_count, placing_at, placing_sources, routing_after, value_of, Work, pads_of, begun_state}
use Rattle.job_state.specs.declared.sources.JobKind.TheVariants.{Routing as RoutingJob}
use Rattle.job_state.specs.declared.work.Work.TheVariants.{Packing, Placing}
use Rattle.job_state.proofs.NextStep.{as_value}

-- a placing of a packed circuit, with no pass made
abbrev pub begun : Sources → PackedCircuit → PlacingUnderWay
begun sources packed = record { packed = packed; strip = sources.strip; kept = sources.kept; seed = sources.seed; effort = sources.effort; passes = 0 }

begun_value : (sources : Sources) (circuit : Result Circuit BlifFault) (steps : ℕ) (packed : PackedCircuit) → sources.kind ≡ PlacingJob →
    value_of (packing_sources sources.arch sources.strip sources.text) circuit steps ≡ Ok (Packed packed) → value_of sources circuit 0 ≡ Ok (Placing (begun sources packed))
begun_value sources circuit steps packed kind is = grind arith

-- a placing starts from what a packing has made
pub placing_begins : (sources : Sources) (steps : ℕ) (packed : PackedCircuit) → sources.kind ≡ PlacingJob → job_value (packing_sources sources.arch sources.strip sources.text) steps ≡ Ok (Packed packed) →
    job_value sources 0 ≡ Ok (Placing (begun sources packed))
placing_begins sources steps packed kind is = begun_value sources (circuit_in sources) steps packed kind is

-- a placing is over after at most `columns + rows + 1` passes
pub over_past_last : (sources : Sources) (steps : ℕ) → sources.kind ≡ PlacingJob → ((strip : Strip) (passes : ℕ) → is_past_last strip passes ≡ false → passes ≤ strip.width + strip.rows) →
    sources.strip.width + sources.strip.rows < steps → is_last sources steps ≡ true
over_past_last sources steps kind law more = grind arith

nets_are : (sources : Sources) (circuit : Circuit) (placed : PlacingUnderWay) (basis : Basis) → basis ≡ basis_in sources → placed ≡ placing_at sources circuit (pass_count sources.strip) →
    nets_to_route basis placed.packed (places_by_block placed) ≡ nets_in sources circuit
unfolding nets_in
nets_are sources circuit placed basis on from = grind arith

pads_are : (sources : Sources) (circuit : Circuit) (placed : PlacingUnderWay) → placed ≡ placing_at sources circuit (pass_count sources.strip) → pads_of placed.packed (places_by_block placed) ≡ pads_in sources circuit
unfolding pads_in
pads_are sources circuit placed from = ap (λ (other : PlacingUnderWay). pads_of other.packed (places_by_block other)) from

abbrev goes_from : Basis → List Resource → RoutingState → Work
goes_from basis pads state = Routing (record { basis = basis; pads = pads; state = state })

-- it goes on before the first iteration
goes_first : (basis : Basis) (pads : List Resource) (packed : PackedCircuit) (places : List Place) → goes_from basis pads (begun_state basis packed places) ≡ routing_after basis pads (nets_to_route basis packed places) 0
unfolding routed_after
goes_first basis pads packed places = refl

routing_value : (sources : Sources) (circuit : Result Circuit BlifFault) (steps : ℕ) (placed : PlacingUnderWay) (basis : Basis) (pads : List Resource) → sources.kind ≡ RoutingJob →
    value_of (placing_sources sources.arch sources.strip sources.text sources.kept sources.seed sources.effort) circuit steps ≡ Ok (Placed placed) →
    IfOk circuit (λ circuit. placed ≡ placing_at sources circuit (pass_count sources.strip)) →
    basis ≡ basis_in sources → pads ≡ pads_of placed.packed (places_by_block placed) →
    value_of sources circuit 0 ≡ Ok (goes_from basis pads (begun_state basis placed.packed (places_by_block placed)))
routing_value sources circuit steps placed basis pads kind is from on held = grind (arith, nets_are, pads_are, goes_first)

placed_on : (sources : Sources) (circuit : Result Circuit BlifFault) (steps : ℕ) (placed : PlacingUnderWay) → value_of sources circuit steps ≡ Ok (Placed placed) → IfOk circuit (λ circuit. placed ≡ placing_at sources circuit (pass_count sources.strip)) →
    (placed.packed.arch ≡ sources.arch) × (placed.strip ≡ sources.strip)
unfolding packed_of
placed_on sources circuit steps placed is from = grind arith

-- a whole placing is for its sources' architecture and strip
pub placed_basis : (sources : Sources) (placed : PlacingUnderWay) → end_value sources ≡ Ok (Placed placed) → IfOk (circuit_in sources) (λ circuit. placed ≡ placing_at sources circuit (pass_count sources.strip)) →
    (placed.packed.arch ≡ sources.arch) × (placed.strip ≡ sources.strip)
placed_basis sources placed is from = placed_on sources (circuit_in sources) (step_count sources) placed is from

abbrev basis_on : Arch → Strip → Basis
basis_on arch strip = record { arch = arch; strip = strip }

-- a routing starts with the nets between the places of a whole placing
pub routing_begins : (sources : Sources) (placed : PlacingUnderWay) (graph : Basis) (pads : List Resource) (places : List Place) → sources.kind ≡ RoutingJob →
    end_value (placing_sources sources.arch sources.strip sources.text sources.kept sources.seed sources.effort) ≡ Ok (Placed placed) →
    IfOk (circuit_in sources) (λ circuit. placed ≡ placing_at sources circuit (pass_count sources.strip)) →
    graph.arch ≡ sources.arch → graph.strip ≡ sources.strip → pads ≡ pads_of placed.packed (places_by_block placed) → places ≡ places_by_block placed →
    job_value sources 0 ≡ Ok (goes_from graph pads (begun_state graph placed.packed places))
routing_begins sources placed graph pads places kind is from arch strip held at =
    let steps = step_count (placing_sources sources.arch sources.strip sources.text sources.kept sources.seed sources.effort) in
    let on : graph ≡ basis_in sources = ap (λ other. basis_on other graph.strip) arch ∙ ap (λ other. basis_on sources.arch other) strip in
    routing_value sources (circuit_in sources) steps placed graph pads kind is from on held
    ∙ ap (λ other. as_value (goes_from graph pads (begun_state graph placed.packed other))) (sym at)

pub packing_begins : (sources : Sources) (circuit : Circuit) (packing : PackingUnderWay) → sources.kind ≡ PackingJob → circuit_in sources ≡ Ok circuit → packing ≡ record { circuit = circuit; arch = sources.arch; made = 0 } →
    job_value sources 0 ≡ Ok (Packing packing)
packing_begins sources circuit packing kind is from = grind arith

pub packing_ends : (sources : Sources) (circuit : Circuit) (steps : ℕ) → sources.kind ≡ PackingJob → circuit_in sources ≡ Ok circuit → packing_steps circuit sources.arch ≡ steps → is_last sources steps ≡ true
packing_ends sources circuit steps kind is last = grind arith
