use Rattle.device_book.proofs.Places.{write_more}
use Rattle.device_book.proofs.book.Book.write.Goals as goal

pub loop-resource-preserved : goal.loop-resource-preserved
loop-resource-preserved c = write_more c.args.self.now c.loop-resource.self c.write_one.new.self c.args.offset c.args.resources.now c.loop-resource.resource-index c.args.owner _
    c.loop-resource-test.true c.loop-resource.invariant c.write_one.ensures
