use Rattle.strip_place.proofs.Prelude.{take, at_column, at_row}
use Rattle.strip_place.proofs.Nearness.{IsBoxSoFar}
use Rattle.strip_place.proofs.net_box.NetBox.of.Given as goal

abbrev pub invariant-loop-block : goal.invariant-loop-block
invariant-loop-block l = IsBoxSoFar (at_column l.points (take l.block-index l.net)) (at_row l.points (take l.block-index l.net)) l.block-index (record { left = l.left; right = l.right; bottom = l.bottom; top = l.top; next_left = l.next_left; next_right = l.next_right; next_bottom = l.next_bottom; next_top = l.next_top })
