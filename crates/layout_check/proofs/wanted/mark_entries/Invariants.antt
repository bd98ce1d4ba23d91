use Rattle.layout_check.proofs.Prelude.{length}
use Rattle.layout_check.proofs.Served.{AreEntries}
use Rattle.layout_check.proofs.wanted.mark_entries.Given as goal

abbrev pub invariant-loop-laid : goal.invariant-loop-laid
invariant-loop-laid l = AreEntries l.nets (length l.initial.marks) l.laid-index l.marks
