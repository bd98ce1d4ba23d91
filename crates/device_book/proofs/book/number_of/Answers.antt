use Rattle.device_book.proofs.Places.{place_within}
use Rattle.device_book.proofs.book.number_of.Goals as goal

pub returns-clause-within : goal.returns-clause-within
returns-clause-within c = rw c.rank-kind.ensures (place_within c.args.extent c.args.resource c.requires.there)
