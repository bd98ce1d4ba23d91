use Rattle.desk_circuits.proofs.Prelude.{inr, refl, subst, sym, flat_map, stop_text, AreStops}
use Rattle.desk_circuits.proofs.path_text.write_stops_on.Goals as goal

pub returns-in-Ok : goal.returns-in-Ok
returns-in-Ok g c =
    let strip = c.args.strip.now in
    let circuit = c.args.circuit.now in
    let stops = c.deref.result.now in
    let are = subst (λ ss. AreStops strip circuit c.args.path.now ss) (sym c.deref.ensures.value) c.in-Ok.ensures in
    (flat_map (stop_text strip circuit) stops, inr (stops, are, refl), c.write_stops-written.ensures)
