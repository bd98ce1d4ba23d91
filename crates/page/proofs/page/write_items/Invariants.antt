use Rattle.page.proofs.Prelude.{take, TakesAll, item_text}
use Rattle.std.specs.Prelude.{flat_map}
use Rattle.page.proofs.page.write_items.Given as goal

-- the items before this one are written
abbrev pub invariant-loop-item : goal.invariant-loop-item
invariant-loop-item g l = TakesAll g.K.Sink.contents g.K.Sink.has_failed l.initial.sink l.sink (flat_map item_text (take l.item-index l.items))
