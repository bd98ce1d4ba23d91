use Rattle.device_book.proofs.Prelude.{ListsBefore}
use Rattle.device_book.proofs.book.Book.owned_resources.Given as goal

abbrev pub invariant-loop-column : goal.invariant-loop-column
invariant-loop-column l = ListsBefore l.self l.column l.list.items
