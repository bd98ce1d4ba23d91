use Rattle.path_stops.proofs.Prelude.{◌≡◌, ◌++◌, eqb, filter, map, take, latch_stop}
use Rattle.path_stops.proofs.stops.add_latches.Given as goal

-- the latches before this one that store the net
abbrev pub invariant-loop-latch : goal.invariant-loop-latch
invariant-loop-latch l = l.stops.items ≡ l.fn.stops.items ++ map (latch_stop l.strip l.circuit) (filter (λ latch. eqb latch.input l.net) (take l.latch-index l.circuit.latches))
