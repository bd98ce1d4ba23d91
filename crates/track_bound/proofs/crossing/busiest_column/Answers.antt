use Rattle.track_bound.proofs.Prelude.{◌+◌, ◌-◌, subst, sym, IsBusiest}
use Rattle.track_bound.proofs.Loops.{keeps, takes}
use Rattle.track_bound.proofs.crossing.busiest_column.Goals as goal
use Rattle.track_bound.proofs.crossing.busiest_column.Goals.{then-crossing-busiest, else-crossing-busiest}

pub loop-column-preserved : goal.loop-column-preserved
loop-column-preserved c =
    let packed = c.args.packed.now in
    let places = c.args.places.now in
    let old = c.loop-column.busiest in
    let new = c.crossing_at-crossing.result in
    let column = c.loop-column.column in
    elim c.if-crossing-busiest.branch [
      | then-crossing-busiest w ↦ subst (IsBusiest packed places (column + 1 - 1)) (sym w.busiest-is) (takes packed places column old new c.loop-column.invariant c.crossing_at-crossing.ensures w.if-crossing-busiest.true)
      | else-crossing-busiest w ↦ subst (IsBusiest packed places (column + 1 - 1)) (sym w.busiest-is) (keeps packed places column old new c.loop-column.invariant c.crossing_at-crossing.ensures w.if-crossing-busiest.false)
    ]
