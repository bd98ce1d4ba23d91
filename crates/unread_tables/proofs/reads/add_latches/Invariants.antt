use Rattle.unread_tables.proofs.Prelude.{◌≡◌, ◌++◌, flat_map, take, reads_of}
use Rattle.unread_tables.proofs.reads.add_latches.Given as goal

-- the nets of the latches before this one were added
abbrev pub invariant-loop-latch : goal.invariant-loop-latch
invariant-loop-latch l = l.nets.items ≡ l.fn.nets.items ++ flat_map reads_of (take l.latch-index l.latches)
