use Rattle.desk_replies.proofs.Prelude.{flat_map, range_with_len, AreAdded, replies_by_number}
use Rattle.desk_replies.proofs.tenants.save_replies.Given as goal

-- the files of the names before this one are written
abbrev pub invariant-loop-number : goal.invariant-loop-number
invariant-loop-number g l =
    AreAdded (g.O.FileOutputs.written l.fn.outputs) (g.O.FileOutputs.written l.outputs) (flat_map (replies_by_number l.folder l.told l.replies) (range_with_len 0 l.number))
