use Rattle.desk_circuits.proofs.Prelude.{◌∙◌, ap, option_map, subst, sym, ShowsLongest, ShowsStops, files_of_texts}
use Rattle.desk_circuits.proofs.Shown.{empty_or, longest_shown}
use Rattle.desk_circuits.proofs.path_text.write_measured_stops.Goals as goal

pub returns-in-Some : goal.returns-in-Some
returns-in-Some g c =
    let files = files_of_texts c.args.texts in
    let measured = c.args.measured.now in
    let path = c.in-Some.path.now in
    let written = c.write_path_stops.ensures in
    let is = sym c.path.ensures ∙ ap (option_map (λ p. p.now)) c.in-Some.is in
    let shown =
    empty_or (ShowsStops files c.circuit.result.now path) (ShowsLongest files measured.circuit measured.longest) written.0
    (λ shows. longest_shown files measured.circuit measured.longest path written.0 is (subst (λ circuit. ShowsStops files circuit path written.0) c.circuit.ensures shows))
    written.1 in
    (written.0, shown, written.2)
