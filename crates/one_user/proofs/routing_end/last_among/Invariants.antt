use Rattle.one_user.proofs.Prelude.{◌≡◌, More, nets_to_route, wiring_of, IsAfter}
use Rattle.one_user.proofs.routing_end.last_among.Given as goal

abbrev pub invariant-loop-iteration : goal.invariant-loop-iteration
invariant-loop-iteration g l = record {
  nets : l.routing.nets ≡ nets_to_route (g.G.StripGraph.basis l.graph) l.packed l.places;
  made : l.routing.iterations ≡ l.iteration;
  going : IsAfter (wiring_of (g.G.StripGraph.basis l.graph)) l.routing More;
}
