use Rattle.fabric_planes.proofs.Prelude.{◌≡◌, ◌+◌, ◌/◌, ◌%◌, map, range_with_len, far_at}
use Rattle.fabric_planes.proofs.distances.far_table.Given as goal

abbrev pub invariant-loop-at : goal.invariant-loop-at
invariant-loop-at l = l.table.items ≡ map (λ at. far_at l.target (l.shape.width + 3) (l.shape.rows + 2) (at / l.stride) (at % l.stride)) (range_with_len 0 l.at)
