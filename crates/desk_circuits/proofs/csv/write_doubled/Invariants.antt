use Rattle.desk_circuits.proofs.Prelude.{take, flat_map, TakesAll, doubled_quote}
use Rattle.desk_circuits.proofs.csv.write_doubled.Given as goal

-- the bytes before this one are written
abbrev pub invariant-loop-byte : goal.invariant-loop-byte
invariant-loop-byte g l = TakesAll g.K.Sink.contents g.K.Sink.has_failed l.initial.sink l.sink (flat_map doubled_quote (take l.byte-index l.bytes))
