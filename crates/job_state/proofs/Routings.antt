-- What a routing that is over has made.
use Rattle.job_state.proofs.Prelude.{ℕ, ◌≡◌, ◌<◌, true, List, length, Result, Ok, Err, IfOk, refl, sym, ap, subst, ◌∙◌, length-map, Circuit, BlifFault, block_nets, packed_of, Standing, More, Done, GaveUp as GivenUp, NoPath as WithoutPath, routed_after, nets_to_route, wiring_of, routes_by_node, Net, Basis, graph_of, Resource, JobKind, Packing as PackingJob, Placing as PlacingJob, Sources, Routed, basis_in, circuit_in, is_last, is_whole, is_whole_value, job_value, nets_in, pads_in, routing_stands, value_of, work_of, RoutedCircuit}
use Rattle.pathfinder.specs.Negotiation.{Routed as RoutedTrees}
use Rattle.job_state.specs.declared.sources.JobKind.TheVariants.{Routing as RoutingJob}
use Rattle.job_state.specs.declared.work.Work.TheVariants.{NoPath}
use Rattle.job_state.proofs.Iterations.{ends_by_thirty, of_nets}

module _ (sources : Sources) (circuit : Circuit) where
  as_many : length (nets_in sources circuit) ≡ length (block_nets (packed_of circuit sources.arch))
  unfolding nets_in nets_to_route
  as_many = length-map (block_nets (packed_of circuit sources.arch)) _

module _ (basis : Basis) (pads : List Resource) (nets : List Net) (steps : ℕ) (routed : RoutedTrees) where
  routed_stands : (standing : Standing) (made : RoutedCircuit) → routing_stands basis pads nets steps routed standing ≡ Routed made → (length made.routes ≡ length routed.trees) × (made.basis ≡ basis)
  routed_stands More made is = absurd (cc)
  routed_stands Done made is =
      let same : record { basis = basis; routes = routes_by_node (graph_of basis) routed.trees; pads = pads } ≡ made = cc in
      (ap (λ (other : RoutedCircuit). length other.routes) (sym same) ∙ length-map routed.trees _, ap (λ (other : RoutedCircuit). other.basis) (sym same))
  routed_stands GivenUp made is = absurd (cc)
  routed_stands (WithoutPath net) made is = absurd (cc)

  no_path_stands : (standing : Standing) (net : ℕ) → routing_stands basis pads nets steps routed standing ≡ NoPath net → standing ≡ WithoutPath net
  no_path_stands More net is = absurd (cc)
  no_path_stands Done net is = absurd (cc)
  no_path_stands GivenUp net is = absurd (cc)
  no_path_stands (WithoutPath other) net is = ap (λ (number : ℕ). WithoutPath number) (cc)

  whole_stands : (standing : Standing) → (standing ≡ More → ⊥) → is_whole (routing_stands basis pads nets steps routed standing) ≡ true
  whole_stands More going = absurd (going refl)
  whole_stands Done going = refl
  whole_stands GivenUp going = refl
  whole_stands (WithoutPath net) going = refl

module _ (sources : Sources) (circuit : Circuit) where
  routed_work : (kind : JobKind) (steps : ℕ) (made : RoutedCircuit) → kind ≡ RoutingJob → work_of kind sources circuit steps ≡ Routed made → (length made.routes ≡ length (nets_in sources circuit)) × (made.basis ≡ basis_in sources)
  routed_work PackingJob steps made k is = absurd (cc)
  routed_work PlacingJob steps made k is = absurd (cc)
  routed_work RoutingJob steps made k is =
      let stands = routed_stands (basis_in sources) (pads_in sources circuit) (nets_in sources circuit) steps (routed_after (wiring_of (basis_in sources)) (nets_in sources circuit) steps) (routed_after (wiring_of (basis_in sources)) (nets_in sources circuit) steps).standing made is in
      (stands.0 ∙ (of_nets (wiring_of (basis_in sources)) (nets_in sources circuit) steps).long, stands.1)

  no_path_work : (kind : JobKind) (steps net : ℕ) → kind ≡ RoutingJob → work_of kind sources circuit steps ≡ NoPath net → net < length (nets_in sources circuit)
  no_path_work PackingJob steps net k is = absurd (cc)
  no_path_work PlacingJob steps net k is = absurd (cc)
  no_path_work RoutingJob steps net k is =
      (of_nets (wiring_of (basis_in sources)) (nets_in sources circuit) steps).named net (no_path_stands (basis_in sources) (pads_in sources circuit) (nets_in sources circuit) steps (routed_after (wiring_of (basis_in sources)) (nets_in sources circuit) steps) (routed_after (wiring_of (basis_in sources)) (nets_in sources circuit) steps).standing net is)

  last_work : (kind : JobKind) (steps : ℕ) → kind ≡ RoutingJob → steps ≡ 30 → is_whole (work_of kind sources circuit steps) ≡ true
  last_work PackingJob steps k last = absurd (cc)
  last_work PlacingJob steps k last = absurd (cc)
  last_work RoutingJob steps k last = whole_stands (basis_in sources) (pads_in sources circuit) (nets_in sources circuit) steps (routed_after (wiring_of (basis_in sources)) (nets_in sources circuit) steps) (routed_after (wiring_of (basis_in sources)) (nets_in sources circuit) steps).standing (ends_by_thirty (wiring_of (basis_in sources)) (nets_in sources circuit) steps last)

routed_value : (sources : Sources) (circuit : Result Circuit BlifFault) (steps : ℕ) (made : RoutedCircuit) → sources.kind ≡ RoutingJob → value_of sources circuit steps ≡ Ok (Routed made) →
    IfOk circuit (λ circuit. length made.routes ≡ length (block_nets (packed_of circuit sources.arch))) × (made.basis ≡ basis_in sources)
routed_value sources (Ok circuit) steps made kind is = let work = routed_work sources circuit sources.kind steps made kind (cc) in (work.0 ∙ as_many sources circuit, work.1)
routed_value sources (Err fault) steps made kind is = absurd (cc)

no_path_value : (sources : Sources) (circuit : Result Circuit BlifFault) (steps net : ℕ) → sources.kind ≡ RoutingJob → value_of sources circuit steps ≡ Ok (NoPath net) →
    IfOk circuit (λ circuit. net < length (block_nets (packed_of circuit sources.arch)))
no_path_value sources (Ok circuit) steps net kind is = subst (λ count. net < count) (as_many sources circuit) (no_path_work sources circuit sources.kind steps net kind (cc))
no_path_value sources (Err fault) steps net kind is = tt

-- it has one tree for each net
pub routed_made : (sources : Sources) (steps : ℕ) (made : RoutedCircuit) → sources.kind ≡ RoutingJob → job_value sources steps ≡ Ok (Routed made) →
    IfOk (circuit_in sources) (λ circuit. length made.routes ≡ length (block_nets (packed_of circuit sources.arch)))
routed_made sources steps made kind is = (routed_value sources (circuit_in sources) steps made kind is).0

-- its routes are on the strip
pub routed_on_strip : (sources : Sources) (steps : ℕ) (made : RoutedCircuit) → sources.kind ≡ RoutingJob → job_value sources steps ≡ Ok (Routed made) → made.basis ≡ basis_in sources
routed_on_strip sources steps made kind is = (routed_value sources (circuit_in sources) steps made kind is).1

-- a net without a path is one of the nets
pub no_path_made : (sources : Sources) (steps net : ℕ) → sources.kind ≡ RoutingJob → job_value sources steps ≡ Ok (NoPath net) →
    IfOk (circuit_in sources) (λ circuit. net < length (block_nets (packed_of circuit sources.arch)))
no_path_made sources steps net kind is = no_path_value sources (circuit_in sources) steps net kind is

last_value : (sources : Sources) (circuit : Result Circuit BlifFault) (steps : ℕ) → sources.kind ≡ RoutingJob → steps ≡ 30 → is_whole_value (value_of sources circuit steps) ≡ true
last_value sources (Ok circuit) steps kind last = last_work sources circuit sources.kind steps kind last
last_value sources (Err fault) steps kind last = refl

-- a routing is over after thirty iterations at the latest
pub over_by_thirty : (sources : Sources) (steps : ℕ) → sources.kind ≡ RoutingJob → steps ≡ 30 → is_last sources steps ≡ true
over_by_thirty sources steps kind last = last_value sources (circuit_in sources) steps kind last
