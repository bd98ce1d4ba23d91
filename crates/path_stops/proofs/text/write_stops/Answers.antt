use Rattle.path_stops.proofs.Prelude.{slice_get-get_or, part_loop, writes_part, stop_text}
use Rattle.path_stops.proofs.text.write_stops.Goals as goal

pub returns-in_err-write_stop : goal.returns-in_err-write_stop
returns-in_err-write_stop g c =
    writes_part _ c.from_residual.ensures.0
    (part_loop (stop_text c.args.strip.now c.args.circuit.now) _ c.loop-stop.stop-index _ (slice_get-get_or _ _ _ c.loop-stop-test.true) c.loop-stop.invariant c.in_err-write_stop.ensures)
