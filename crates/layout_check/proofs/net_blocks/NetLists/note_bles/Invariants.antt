use Rattle.layout_check.proofs.Prelude.{take, list_any, leaves_as, NotesIn}
use Rattle.layout_check.proofs.net_blocks.NetLists.note_bles.Given as goal

abbrev pub invariant-loop-ble : goal.invariant-loop-ble
invariant-loop-ble l = NotesIn l.number l.limit (λ net. list_any (leaves_as net) (take l.ble-index l.bles)) l.initial.self l.self
