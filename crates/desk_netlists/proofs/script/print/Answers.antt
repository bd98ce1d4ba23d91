use Rattle.desk_netlists.proofs.Printing.{printed_so}
use Rattle.desk_netlists.proofs.script.print.Goals as goal

pub returns-in-Ok : goal.returns-in-Ok
returns-in-Ok g c =
    printed_so g.W.Sink.contents g.W.Sink.has_failed c.args.writer.now c.write.new.sink c.args.wishes c.args.text.now c.in-Ok.script c.write.result c.of_writing.result
    c.of_writing.ensures c.in-Ok.ensures.of c.write.ensures.written
