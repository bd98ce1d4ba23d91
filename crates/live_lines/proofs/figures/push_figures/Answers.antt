use Rattle.live_lines.proofs.Prelude.{◌≡◌, Some, reverse, slice_get}
use Rattle.live_lines.proofs.FigureLemmas.{name_here, rows_push}
use Rattle.live_lines.proofs.figures.push_figures.Goals as goal

pub loop-place-preserved : goal.loop-place-preserved
loop-place-preserved c =
    let named : slice_get (reverse c.args.names.now) c.loop-place.place ≡ Some c.in-Some.name.now = name_here c.args.names.now c.loop-place.place c.in-Some.name c.name_of.result c.name_of.ensures c.in-Some.is in
    rows_push c.args.core.now c.args.number c.args.names.now c.loop-place.place c.in-Some.name.now _ _ _ named c.loop-place.invariant c.in_ok-push_row-in-Some.ensures
