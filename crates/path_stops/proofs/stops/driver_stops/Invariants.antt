use Rattle.path_stops.proofs.Prelude.{◌≡◌, ◌+◌, length, map, take, range_with_len, stop_at}
use Rattle.path_stops.proofs.stops.driver_stops.Given as goal

-- the stops before this one
abbrev pub invariant-loop-place : goal.invariant-loop-place
invariant-loop-place l = l.stops.items ≡ map (stop_at l.strip l.circuit l.path) (range_with_len 0 l.place)
