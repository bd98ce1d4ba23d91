use Rattle.kept_places.proofs.Filling.{IsFilling}
use Rattle.kept_places.proofs.table.Table.in_order.Given as goal

abbrev pub invariant-loop-entry : goal.invariant-loop-entry
invariant-loop-entry l = IsFilling l.entries l.entry-index l.names.items l.rows.items
