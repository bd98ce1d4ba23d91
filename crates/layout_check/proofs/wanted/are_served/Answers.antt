use Rattle.layout_check.proofs.Prelude.{◌≡◌, ◌≤◌, ◌<◌, ℕ, List, Option, ap, false, length, rules, subst, sym, true, ◌∙◌, option_map_or, Pin, is_in}
use Rattle.layout_check.proofs.Served.{all_served, one_unserved}
use Rattle.layout_check.proofs.wanted.are_served.Goals as goal

pub returns : goal.returns
returns c =
    all_served c.args.arch.now c.args.block.now c.args.class c.args.marks.now c.loop-pin.pin (subst (λ (pins : List Pin). length pins ≤ c.loop-pin.pin) c.as_slice-count.ensures c.loop-pin-test.false) c.loop-pin.invariant

pub returns-then-not-served : goal.returns-then-not-served
returns-then-not-served c =
    let no : c.is_served-served.result ≡ false = search rules in
    one_unserved c.args.arch.now c.args.block.now c.args.class c.args.marks.now c.loop-pin.pin (subst (λ (pins : List Pin). c.loop-pin.pin < length pins) c.as_slice-count.ensures c.loop-pin-test.true)
    (sym (c.is_served-served.ensures ∙ ap (λ (o : Option ℕ). option_map_or (is_in c.args.marks.now) o true) c.on_pin.ensures) ∙ no)
