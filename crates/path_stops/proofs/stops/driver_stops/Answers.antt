use Rattle.path_stops.proofs.Prelude.{ℕ, ◌∙◌, List, [], ◌∷◌, ◌++◌, ap, map, sym, zero-add, range_with_len, map-range_with_len_more, stop_at, PathStop}
use Rattle.path_stops.proofs.stops.driver_stops.Goals as goal

pub loop-place-preserved : goal.loop-place-preserved
loop-place-preserved c =
    let at : ℕ → PathStop = stop_at c.args.strip.now c.args.circuit.now c.args.path.now in
    let place : ℕ = c.loop-place.place in
    c.in_ok-push.ensures.items
    ∙ (ap (λ (stops : List PathStop). stops ++ c.stop_at.result ∷ []) c.loop-place.invariant
    ∙ (ap (λ (stop : PathStop). map at (range_with_len 0 place) ++ stop ∷ []) c.stop_at.ensures
    ∙ sym (map-range_with_len_more at 0 place place (zero-add place))))
