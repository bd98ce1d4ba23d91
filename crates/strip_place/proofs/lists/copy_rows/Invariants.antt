use Rattle.strip_place.proofs.Prelude.{AreCopied}
use Rattle.strip_place.proofs.lists.copy_rows.Given as goal

abbrev pub invariant-loop-number : goal.invariant-loop-number
invariant-loop-number l = AreCopied l.rows l.number l.numbers.items l.bounds.items
