-- What is reported on one basis holds on an equal one.
use Rattle.one_user.proofs.Prelude.{◌≡◌, List, Some, None, sym, ap, subst, ◌∙◌, arith, length-map, block_nets, Circuit, PackedCircuit, packed_of, Place, count_over, overuse_at, nets_to_route, wiring_of, RoutingState, IterEnd, of_nets, Basis, graph_of, Node, PlacingUnderWay, AreCrowdedNodes, IsCrowdingOf, Task, nets_on_device, IsPlacing, IsRoutingEnd, Crowding}
use Rattle.std.specs.Prelude.{length}
use Rattle.pathfinder.specs.declared.routing.IterEnd.TheVariants as end
use Rattle.tenant_slot.specs.declared.failure.RoutingFailure.TheVariants.{GaveUp as FailedAll}
use Rattle.one_user.proofs.LastResults.{failure_by}
use Rattle.one_user.proofs.OtherTracks.{own_circuit, serves_own}
use Rattle.one_user.proofs.Tries.{Ended, Serves, basis_for, crowding_told, none_told}

pub same_basis : (a b : Basis) → a.arch ≡ b.arch → a.strip ≡ b.strip → a ≡ b
same_basis a b arch strip = λ i. record { arch = arch i; strip = strip i }

-- a routing that did not give up did not fail for all nets
not_all_failed : (result : IterEnd) → ((routing : RoutingState) → result ≡ end.GaveUp routing → ⊥) → failure_by result ≡ Some FailedAll → ⊥
not_all_failed result not is = grind arith

-- there are as many nets to route as nets of the packed circuit
many_nets : (basis : Basis) (packed : PackedCircuit) (places : List Place) → length (nets_to_route basis packed places) ≡ length (block_nets packed)
unfolding nets_to_route
many_nets basis packed places = length-map (block_nets packed) _

-- routes are of all nets of the packed circuit
pub all_nets_routed : (basis : Basis) (placing : PlacingUnderWay) (routes : List (List (List Node))) → IsRoutingEnd basis (nets_on_device basis placing) (end.Done routes) → length routes ≡ length (block_nets placing.packed)
all_nets_routed basis placing routes is = grind (arith, length-map, of_nets, many_nets)

module _ (basis : Basis) (placing : PlacingUnderWay) (task : Task) (same : basis ≡ basis_for task) (given : IsPlacing task placing) where
  pub strip_is : placing.strip ≡ basis.strip
  strip_is = ap (λ (p : PlacingUnderWay). p.strip) given.is ∙ sym (ap (λ (b : Basis). b.strip) same)

  abbrev serves : Serves task placing
  serves = serves_own task placing given

  moved : (result : IterEnd) → IsRoutingEnd basis (nets_on_device basis placing) result → Ended task placing serves result
  moved result ended = subst (λ (b : Basis). IsRoutingEnd b (nets_on_device b placing) result) same ended

  pub none_at : (result : IterEnd) → IsRoutingEnd basis (nets_on_device basis placing) result → ((routing : RoutingState) → result ≡ end.GaveUp routing → ⊥) → IsCrowdingOf task None
  none_at result ended not = none_told task placing serves result (moved result ended) (not_all_failed result not)

  pub crowding_at : (result : IterEnd) (routing : RoutingState) → result ≡ end.GaveUp routing → IsRoutingEnd basis (nets_on_device basis placing) result →
      (crowding : Crowding) → crowding.packed ≡ placing.packed → crowding.rows ≡ basis.strip.rows →
      crowding.overused ≡ count_over (overuse_at (wiring_of basis) routing.trees) (graph_of basis).count → AreCrowdedNodes basis routing.trees 10 crowding.nodes.items → IsCrowdingOf task (Some crowding)
  crowding_at result routing is ended crowding packed rows overused nodes =
      crowding_told task placing serves routing
      (moved (end.GaveUp routing) (subst (λ (e : IterEnd). IsRoutingEnd basis (nets_on_device basis placing) e) is ended))
      crowding (packed ∙ ap (λ (p : PlacingUnderWay). p.packed) given.is ∙ ap (λ (k : Circuit). packed_of k task.arch) (sym (own_circuit task placing given))) (rows ∙ ap (λ (b : Basis). b.strip.rows) same)
      (overused ∙ ap (λ (b : Basis). count_over (overuse_at (wiring_of b) routing.trees) (graph_of b).count) same)
      (subst (λ (b : Basis). AreCrowdedNodes b routing.trees 10 crowding.nodes.items) same nodes)
