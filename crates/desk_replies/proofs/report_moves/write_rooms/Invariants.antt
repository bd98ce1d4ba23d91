use Rattle.desk_replies.proofs.Prelude.{codes, take, TakesAll, room_line}
use Rattle.std.specs.Prelude.{flat_map}
use Rattle.desk_replies.proofs.report_moves.write_rooms.Given as goal

-- the gaps before this one are written
abbrev pub invariant-loop-gap : goal.invariant-loop-gap
invariant-loop-gap g l = TakesAll g.W.Sink.contents g.W.Sink.has_failed l.initial.writer l.writer (flat_map (room_line (codes "gap")) (take l.gap-index l.gaps))
