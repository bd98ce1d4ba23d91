use Rattle.track_bound.proofs.Prelude.{◌-◌, IsBusiest}
use Rattle.track_bound.proofs.crossing.busiest_column.Given as goal

abbrev pub invariant-loop-column : goal.invariant-loop-column
invariant-loop-column l = IsBusiest l.packed l.places (l.column - 1) l.busiest
