use Rattle.one_user.proofs.Prelude.{take, flat_map, TakesAll, net_word}
use Rattle.one_user.proofs.crowding_text.write_nets.Given as goal

-- the names before this one are written
abbrev pub invariant-loop-net : goal.invariant-loop-net
invariant-loop-net g l = TakesAll g.W.Sink.contents g.W.Sink.has_failed l.initial.sink l.sink (flat_map (net_word l.crowding.packed) (take l.net-index l.nets))
