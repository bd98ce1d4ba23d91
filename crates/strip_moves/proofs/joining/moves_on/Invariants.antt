use Rattle.strip_moves.proofs.Prelude.{AreAccepted, IsSettled}
use Rattle.strip_moves.proofs.joining.moves_on.Given as goal

-- the moves so far are accepted, and the strips before this offset are moved
abbrev pub invariant-loop-offset : goal.invariant-loop-offset
invariant-loop-offset l = AreAccepted l.fn.plan l.moves.items l.plan × IsSettled l.strips l.plan l.offset
