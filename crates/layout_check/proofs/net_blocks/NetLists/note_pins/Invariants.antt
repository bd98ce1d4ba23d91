use Rattle.layout_check.proofs.Prelude.{length, take, list_any, range_with_len, is_net, on_pin, NotesIn}
use Rattle.layout_check.proofs.net_blocks.NetLists.note_pins.Given as goal

abbrev pub invariant-loop-pin : goal.invariant-loop-pin
invariant-loop-pin l =
    NotesIn l.number l.limit (λ net. list_any (λ pin. is_net net (on_pin l.arch l.block l.class pin)) (take l.pin (range_with_len 0 (length l.arch.pins)))) l.initial.self l.self
