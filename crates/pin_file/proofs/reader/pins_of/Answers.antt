use Rattle.pin_file.proofs.Prelude.{◌≡◌, ◌+◌, [], List, Result, Err, drop, ap, sym, ◌∙◌, arith, map_push, Pin, pins_after, pin_read, pins_read, PinFileFault, NotAPin}
use Rattle.pin_file.proofs.Steps.{none_left, one_refused, one_taken}
use Rattle.pin_file.proofs.reader.pins_of.Goals as goal

pub loop-number-preserved : goal.loop-number-preserved
loop-number-preserved c =
    let before = pins_read c.loop-number.pins.items in
    c.loop-number.invariant
    ∙ one_taken before c.args.lines.now c.loop-number.number c.line-line.result (pin_read c.in-Some.pin) c.line-line.ensures (sym c.in-Some.ensures)
    ∙ ap (λ (pins : List Pin). pins_after pins (drop (c.loop-number.number + 1) c.args.lines.now)) (sym (ap pins_read c.in_ok-push-in-Some.ensures.items ∙ map_push pin_read c.loop-number.pins.items c.in-Some.pin))

pub returns-in-None : goal.returns-in-None
returns-in-None c =
    c.loop-number.invariant
    ∙ one_refused (pins_read c.loop-number.pins.items) c.args.lines.now c.loop-number.number c.line-line.result c.line-line.ensures (sym c.in-None.ensures)
    ∙ ap (λ n. let r : Result (List Pin) PinFileFault = Err (NotAPin n) in r) (sym c.number.ensures)

pub returns : goal.returns
returns c = c.loop-number.invariant ∙ none_left (pins_read c.loop-number.pins.items) c.args.lines.now c.loop-number.number (omega (arith, c.len-number-end.ensures, c.loop-number-test.false))
