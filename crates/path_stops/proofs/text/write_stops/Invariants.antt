use Rattle.path_stops.proofs.Prelude.{take, flat_map, TakesAll, stop_text}
use Rattle.path_stops.proofs.text.write_stops.Given as goal

-- the stops before this one are written
abbrev pub invariant-loop-stop : goal.invariant-loop-stop
invariant-loop-stop g l = TakesAll g.W.Sink.contents g.W.Sink.has_failed l.initial.sink l.sink (flat_map (stop_text l.strip l.circuit) (take l.stop-index l.stops))
