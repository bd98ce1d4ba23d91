use Rattle.plane_search.proofs.Prelude.{◌≡◌, take, places_in}
use Rattle.plane_search.proofs.walk.Walk.write_path.Given as goal

abbrev pub invariant-loop-stop : goal.invariant-loop-stop
invariant-loop-stop g l = l.nodes.items ≡ places_in (take l.stop-index l.self.stops.items)
