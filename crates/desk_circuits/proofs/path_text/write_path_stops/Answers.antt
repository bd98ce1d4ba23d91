use Rattle.desk_circuits.proofs.Prelude.{ShowsStops, ShowsStopsOn, files_of_texts}
use Rattle.desk_circuits.proofs.Shown.{empty_or}
use Rattle.desk_circuits.proofs.path_text.write_path_stops.Goals as goal

pub returns : goal.returns
returns g c =
    let circuit = c.args.circuit.now in
    let path = c.args.path.now in
    let written = c.write_stops_on-written.ensures in
    let shown = empty_or (ShowsStopsOn c.in-Ok.strip circuit path) (ShowsStops (files_of_texts c.args.texts) circuit path) written.0 (λ shows. (c.in-Ok.strip, c.in-Ok.ensures, shows)) written.1 in
    (written.0, shown, written.2)
