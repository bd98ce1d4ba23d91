use Rattle.unread_tables.proofs.Prelude.{take, AreMarks}
use Rattle.unread_tables.proofs.counting.marks_of.Given as goal

-- the nets before this one are marked
abbrev pub invariant-loop-net : goal.invariant-loop-net
invariant-loop-net l = AreMarks l.count (take l.net-index l.nets) l.marks.items
