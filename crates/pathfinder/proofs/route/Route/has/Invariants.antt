use Rattle.pathfinder.proofs.Prelude.{◌≡◌, take, false, holds}
use Rattle.pathfinder.proofs.route.Route.has.Given as goal

abbrev pub invariant-loop-number : goal.invariant-loop-number
invariant-loop-number l = holds l.node (take l.number l.self) ≡ false
