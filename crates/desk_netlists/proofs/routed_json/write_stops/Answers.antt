use Rattle.desk_netlists.proofs.Prelude.{None, slice_get-get_or, json_tokens, one_more, Start, stop_json, StopFacts}
use Rattle.desk_netlists.proofs.routed_json.write_stops.Goals as goal

pub loop-stop-preserved : goal.loop-stop-preserved
loop-stop-preserved c =
    let stops = c.args.stops.now in
    let at = c.loop-stop.stop-index in
    let none : StopFacts = record { kind = Start; net = 0; wires = None; x = None; y = None; pad = None } in
    one_more (λ one. json_tokens (stop_json c.args.circuit.now one)) stops at _ c.args.pen.now c.loop-stop.pen c.write_stop.new.pen (slice_get-get_or stops at none c.loop-stop-test.true) c.loop-stop.invariant c.in_ok-write_stop.ensures
