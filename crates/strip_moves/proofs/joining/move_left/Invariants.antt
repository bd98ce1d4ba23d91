use Rattle.strip_moves.proofs.Prelude.{◌≡◌, CannotMove}
use Rattle.strip_moves.proofs.joining.move_left.Given as goal

-- nothing is moved so far, and no lower offset is accepted
abbrev pub invariant-loop-offset : goal.invariant-loop-offset
invariant-loop-offset l = (l.plan ≡ l.fn.plan) × CannotMove l.fn.plan l.id l.offset
