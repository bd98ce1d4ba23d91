use Rattle.layout_check.proofs.Prelude.{◌<◌, List, arith, length, subst, sym, LaidBle}
use Rattle.layout_check.proofs.BlePlaces.{number_found}
use Rattle.layout_check.proofs.elements.ble_number.Goals as goal

pub returns-then-left-count : goal.returns-then-left-count
returns-then-left-count c =
    number_found c.args.blocks.now c.args.place c.loop-number.number c.loop-number.left c.index-blocks-number.result (omega arith) (sym c.index-blocks-number.is) c.loop-number.invariant
    (subst (λ (bles : List LaidBle). c.loop-number.left < length bles) c.bles-count.ensures c.if-left-count.true)
