use Rattle.track_bound.proofs.Prelude.{◌≡◌, take, count_by, block_nets, crosses_column}
use Rattle.track_bound.proofs.crossing.crossing_at.Given as goal

abbrev pub invariant-loop-number : goal.invariant-loop-number
invariant-loop-number l = l.nets ≡ count_by (crosses_column l.places l.column) (take l.number (block_nets l.packed))
