use Rattle.vpr_files.proofs.Prelude.{take, flat_map, net_name, pins_of, word_after_space, or_open, TakesAll}
use Rattle.vpr_files.proofs.net_file.write_pins.Given as goal

-- the words of the pins before this one are written
abbrev pub invariant-loop-pin : goal.invariant-loop-pin
invariant-loop-pin g l = TakesAll g.W.Sink.contents g.W.Sink.has_failed l.initial.sink l.sink (flat_map (λ carried. word_after_space (or_open (net_name l.packed.circuit) carried)) (take l.pin (pins_of l.packed l.cluster)))
