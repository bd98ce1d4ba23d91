-- A routing on its graph before the first iteration.
use Rattle.job_state.proofs.Prelude.{ℕ, ◌≡◌, List, [], map, ap, arith, routed_after, nets_to_route, RoutingState, Net, Basis, state_at, Begun, Stage}
use Rattle.pathfinder.specs.Negotiation.{Routed}
use Rattle.job_state.specs.declared.stage.Stage.TheVariants.{Begun as BegunStage}

abbrev made_of : List Net → ℕ → Routed → RoutingState
made_of nets iterations routed = record { nets = nets; iterations = iterations; trees = routed.trees; history = routed.history }

-- before the first iteration there are no paths
pub none_begun : (basis : Basis) (stage : Stage) (begun : Begun) → stage ≡ BegunStage begun → (state_at basis stage).trees ≡ map (λ net. []) (nets_to_route basis begun.packed begun.places.items)
unfolding routed_after
none_begun basis stage begun is = ap (λ (s : Stage). (state_at basis s).trees) is
