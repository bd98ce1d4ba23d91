use Rattle.layout_check.proofs.Prelude.{length, AreOwnersUpTo}
use Rattle.layout_check.proofs.owners.own_latches.Given as goal

abbrev pub invariant-loop-number : goal.invariant-loop-number
invariant-loop-number l = AreOwnersUpTo l.circuit (length l.circuit.tables) l.number l.owners.items
