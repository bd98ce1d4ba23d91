use Rattle.strip_picture.proofs.Prelude.{take, flat_map, TakesAll, number_text}
use Rattle.strip_picture.proofs.heat.write_numbers.Given as goal

-- the numbers before this one are written
abbrev pub invariant-loop-channel : goal.invariant-loop-channel
invariant-loop-channel g l = TakesAll g.K.Sink.contents g.K.Sink.has_failed l.initial.sink l.sink (flat_map (number_text l.lattice) (take l.channel-index l.channels))
