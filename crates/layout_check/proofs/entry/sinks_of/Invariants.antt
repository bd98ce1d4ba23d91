use Rattle.layout_check.proofs.Prelude.{◌≡◌, take, sinks_at}
use Rattle.layout_check.proofs.entry.sinks_of.Given as goal

abbrev pub invariant-loop-reader : goal.invariant-loop-reader
invariant-loop-reader l = l.sinks.items ≡ sinks_at l.blocks (take l.reader-index l.readers)
