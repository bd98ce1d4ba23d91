use Rattle.page.proofs.Prelude.{take, flat_map, TakesAll, escape_of}
use Rattle.page.proofs.shown.write_shown.Given as goal

-- the bytes before this one are written
abbrev pub invariant-loop-byte : goal.invariant-loop-byte
invariant-loop-byte g l = TakesAll g.K.Sink.contents g.K.Sink.has_failed l.initial.sink l.sink (flat_map escape_of (take l.byte-index l.bytes))
