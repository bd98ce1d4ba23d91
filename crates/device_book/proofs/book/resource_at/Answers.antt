use Rattle.device_book.proofs.Places.{place_parts}
use Rattle.device_book.proofs.book.resource_at.Goals as goal

pub returns-clause-place : goal.returns-clause-place
returns-clause-place c = (place_parts c.args.extent c.kind_of-kind.result c.args.place c.requires.within c.kind_of-kind.ensures).1
