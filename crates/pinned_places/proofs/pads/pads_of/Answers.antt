use Rattle.pinned_places.proofs.Prelude.{◌≡◌, ◌+◌, ◌∙◌, List, ap, sym, drop, length, arith, length-map, pin_read, pins_read, pads_after, FixedPad}
use Rattle.pinned_places.proofs.Steps.{no_pins, pin_met, pin_refused}
use Rattle.pinned_places.proofs.pads.pads_of.Goals as goal

pub returns-in-Err : goal.returns-in-Err
returns-in-Err c =
    c.loop-pin.invariant
    ∙ pin_refused c.args.packed.now c.args.strip c.loop-pin.pads.items c.args.pins.now c.loop-pin.pin-index _ c.loop-pin-test.true c.as_slice.result.now c.pad_of.result c.as_slice.ensures.value c.pad_of.ensures c.in-Err.fault c.in-Err.is

pub loop-pin-preserved : goal.loop-pin-preserved
loop-pin-preserved c =
    c.loop-pin.invariant
    ∙ pin_met c.args.packed.now c.args.strip c.loop-pin.pads.items c.args.pins.now c.loop-pin.pin-index _ c.loop-pin-test.true c.as_slice.result.now c.pad_of.result c.as_slice.ensures.value c.pad_of.ensures c.in-Ok.pad c.in-Ok.is
    ∙ ap (λ (pads : List FixedPad). pads_after c.args.packed.now c.args.strip pads (drop (c.loop-pin.pin-index + 1) (pins_read c.args.pins.now))) (sym c.in_ok-push-in-Ok.ensures.items)

pub returns : goal.returns
returns c = c.loop-pin.invariant ∙ no_pins c.args.packed.now c.args.strip c.loop-pin.pads.items (pins_read c.args.pins.now) c.loop-pin.pin-index (omega (arith, length-map c.args.pins.now pin_read, c.loop-pin-test.false))
