use Rattle.desk_replies.proofs.Prelude.{take, TakesAll, move_line}
use Rattle.std.specs.Prelude.{flat_map}
use Rattle.desk_replies.proofs.report_moves.write_moves.Given as goal

-- the moves before this one are written
abbrev pub invariant-loop-one : goal.invariant-loop-one
invariant-loop-one g l = TakesAll g.W.Sink.contents g.W.Sink.has_failed l.initial.writer l.writer (flat_map (move_line l.tenancies) (take l.one-index l.moves))
