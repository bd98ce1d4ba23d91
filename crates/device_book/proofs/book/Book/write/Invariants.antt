use Rattle.device_book.proofs.Prelude.{map, take, moved_resource, AreOwned}
use Rattle.device_book.proofs.book.Book.write.Given as goal

-- the resources written so far have the owner
abbrev pub invariant-loop-resource : goal.invariant-loop-resource
invariant-loop-resource l = AreOwned l.fn.self (map (moved_resource l.offset) (take l.resource-index l.resources)) l.owner l.self
