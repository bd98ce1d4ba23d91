use Rattle.device_book.proofs.Prelude.{ListsPlaces}
use Rattle.device_book.proofs.book.Book.list_column.Given as goal

abbrev pub invariant-loop-place : goal.invariant-loop-place
invariant-loop-place l = ListsPlaces l.self l.place l.list.items
