use Rattle.one_user.proofs.Prelude.{take, flat_map, TakesAll, crowded_line}
use Rattle.one_user.proofs.crowding_text.write_nodes.Given as goal

-- the lines before this one are written
abbrev pub invariant-loop-crowded : goal.invariant-loop-crowded
invariant-loop-crowded g l =
    TakesAll g.W.Sink.contents g.W.Sink.has_failed l.initial.sink l.sink (flat_map (crowded_line l.crowding.packed l.crowding.rows) (take l.crowded-index l.nodes))
