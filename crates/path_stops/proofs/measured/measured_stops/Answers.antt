use Rattle.path_stops.proofs.Prelude.{List, [], ◌∷◌, ◌++◌, ◌+◌, subst, sym, take, take_more, AllZip, IsMeasured, MeasuredStop}
use Rattle.path_stops.proofs.Zipped.{zip_more}
use Rattle.path_stops.proofs.measured.measured_stops.Goals as goal

pub loop-stop-preserved : goal.loop-stop-preserved
loop-stop-preserved c =
    let is = IsMeasured c.args.strip.now c.args.circuit.now in
    let stops = c.args.stops.now in
    let index = c.loop-stop.stop-index in
    subst (λ (measured : List MeasuredStop). AllZip is (take (index + 1) stops) measured) (sym c.in_ok-push.ensures.items)
    (subst (λ xs. AllZip is xs (c.loop-stop.measured.items ++ c.in_ok-measured_stop.field-0 ∷ [])) (sym (take_more stops index _ c.loop-stop-test.true))
    (zip_more is (take index stops) c.loop-stop.measured.items _ c.in_ok-measured_stop.field-0 c.loop-stop.invariant c.in_ok-measured_stop.ensures))
