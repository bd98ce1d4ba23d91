use Rattle.layout_check.proofs.Prelude.{AreOwnersUpTo}
use Rattle.layout_check.proofs.owners.own_tables.Given as goal

abbrev pub invariant-loop-number : goal.invariant-loop-number
invariant-loop-number l = AreOwnersUpTo l.circuit l.number 0 l.owners.items
