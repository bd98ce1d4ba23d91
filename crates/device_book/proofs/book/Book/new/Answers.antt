use Rattle.device_book.proofs.Prelude.{rules}
use Rattle.device_book.proofs.Columns.{whole_nobody}
use Rattle.device_book.proofs.book.Book.new.Goals as goal

pub invariant_of-result : goal.invariant_of-result
invariant_of-result c =
    whole_nobody (record { columns = c.args.columns; rows = c.args.rows; numbers = c.numbers-numbers.result }) c.in_ok-owners.owners.items c.in_ok-used.used.items
    (record { columns = c.requires.wide; rows = c.requires.high; numbers = c.numbers-numbers.ensures.few }) (search rules) (search rules)
