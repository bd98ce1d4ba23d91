use Rattle.job_state.proofs.Prelude.{◌≡◌, IfOk, ◌∙◌, ap, sym, subst, PackedCircuit, Strip, PlacingUnderWay, ArePlaced, on_strip, RoutingUnderWay, begun_state, Sources, Placed, Routing, circuit_in, end_value, pass_count, placing_at, placing_sources}
use Rattle.job_state.proofs.Beginnings.{placed_basis, routing_begins}
use Rattle.job_state.proofs.NextStep.{as_value}
use Rattle.job_state.proofs.There.{on_same_strip}
use Rattle.job_state.proofs.parked.routing_of.Goals as goal

-- what the placing that the routing starts from has made
abbrev HasEnded : Sources → PlacingUnderWay → Type 0
HasEnded sources placed = end_value sources ≡ as_value (Placed placed)

abbrev IsExact : Sources → PlacingUnderWay → Type 0
IsExact sources placed = IfOk (circuit_in sources) (λ circuit. placed ≡ placing_at sources circuit (pass_count sources.strip))

abbrev placing_of : Sources → Sources
placing_of sources = placing_sources sources.arch sources.strip sources.text sources.kept sources.seed sources.effort

on_same : (from sources : Sources) (placed : PlacingUnderWay) → from ≡ placing_of sources → HasEnded from placed → IsExact from placed → (placed.packed.arch ≡ sources.arch) × (placed.strip ≡ sources.strip)
on_same from sources placed same is exact =
    placed_basis (placing_of sources) placed (subst (λ other. HasEnded other placed) same is) (subst (λ other. IsExact other placed) same exact)

pub returns : goal.returns
returns c =
    let placed = c.placing-placing.result.now in
    let on = on_same c.args.placing.now.step.sources c.args.sources.now placed c.requires.from c.placing-placing.ensures.value c.placing-placing.ensures.exact in
    let shared : c.in_ok-shared.shared ≡ c.args.sources.now.arch = c.in_ok-shared.ensures.cases in
    let packed : c.in_ok-packed.packed ≡ placed.packed = c.in_ok-packed.ensures.cases ∙ c.shared_packed.ensures in
    let sources = c.args.sources.now in
    let graph = on_strip c.in_ok-shared.shared c.strip.result in
    let pads = c.in_ok-pads.pads.items in
    let places = c.in_ok-places.places.items in
    routing_begins sources placed graph pads places c.requires.kind
    (subst (λ other. HasEnded other placed) c.requires.from c.placing-placing.ensures.value)
    (subst (λ other. IsExact other placed) c.requires.from c.placing-placing.ensures.exact)
    shared (c.strip.ensures.value ∙ on.1) c.in_ok-pads.ensures.exact c.in_ok-places.ensures.exact
    ∙ (ap (λ (other : PackedCircuit). as_value (Routing (record { basis = graph; pads = pads; state = begun_state graph other places }))) (sym packed)
    ∙ ap (λ (made : RoutingUnderWay). as_value (Routing made)) (sym c.new.ensures))

pub new-requires-clause-pads : goal.new-requires-clause-pads
new-requires-clause-pads c =
    let placed = c.placing-placing.result.now in
    let on = on_same c.args.placing.now.step.sources c.args.sources.now placed c.requires.from c.placing-placing.ensures.value c.placing-placing.ensures.exact in
    let shared : c.in_ok-shared.shared ≡ c.args.sources.now.arch = c.in_ok-shared.ensures.cases in
    let packed : c.in_ok-packed.packed ≡ placed.packed = c.in_ok-packed.ensures.cases ∙ c.shared_packed.ensures in
    on_same_strip (record { arch = placed.packed.arch; strip = placed.strip }) (on_strip c.in_ok-shared.shared c.strip.result) c.in_ok-pads.pads.items (shared ∙ sym on.0) c.strip.ensures.value c.in_ok-pads.ensures.there

pub new-requires-clause-stage : goal.new-requires-clause-stage
new-requires-clause-stage c =
    let placed = c.placing-placing.result.now in
    let on = on_same c.args.placing.now.step.sources c.args.sources.now placed c.requires.from c.placing-placing.ensures.value c.placing-placing.ensures.exact in
    let shared : c.in_ok-shared.shared ≡ c.args.sources.now.arch = c.in_ok-shared.ensures.cases in
    let packed : c.in_ok-packed.packed ≡ placed.packed = c.in_ok-packed.ensures.cases ∙ c.shared_packed.ensures in
    let places = c.in_ok-places.places.items in (
      ap (λ (p : PackedCircuit). p.arch) packed ∙ (on.0 ∙ sym shared),
      subst (λ (s : Strip). ArePlaced s c.in_ok-packed.packed places) (sym c.strip.ensures.value)
          (subst (λ (p : PackedCircuit). ArePlaced placed.strip p places) (sym packed) c.in_ok-places.ensures.placed),
    )
