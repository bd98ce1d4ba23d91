use Rattle.path_stops.proofs.Prelude.{take, AllZip, IsMeasured}
use Rattle.path_stops.proofs.measured.measured_stops.Given as goal

-- the stops before this one
abbrev pub invariant-loop-stop : goal.invariant-loop-stop
invariant-loop-stop l = AllZip (IsMeasured l.strip l.circuit) (take l.stop-index l.stops) l.measured.items
