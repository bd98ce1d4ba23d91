use Rattle.layout_files.proofs.Prelude.{None, ◌∙◌, ◌∷◌, ℕ, List, ap, append-nil, ◌≤◌, length, sym, flat_map-map, word_after_space, net_name, or_open, left_after}
use Rattle.layout_files.proofs.Printing.{all_printed, next_printed, printed_as}
use Rattle.layout_files.proofs.net_print.print_pins.Goals as goal

pub returns : goal.returns
returns c =
    let xs = c.args.pins.now in
    let past : length xs ≤ c.loop-pin.pin-index = c.loop-pin-test.false in
    printed_as _ _ _ _ (all_printed (λ pin. word_after_space (or_open (net_name c.args.circuit.now) pin)) xs c.loop-pin.pin-index _ _ past c.loop-pin.invariant) (sym (flat_map-map word_after_space (or_open (net_name c.args.circuit.now)) xs))

pub loop-pin-preserved : goal.loop-pin-preserved
loop-pin-preserved c =
    next_printed (λ pin. word_after_space (or_open (net_name c.args.circuit.now) pin)) c.args.pins.now c.loop-pin.pin-index None c.args.print.now c.loop-pin.print c.print.new.self c.loop-pin-test.true c.loop-pin.invariant
    (c.print.ensures.left ∙ ap (λ (name : List ℕ). left_after c.loop-pin.print (32 ∷ name)) (append-nil c.net_or_open.result.now ∙ c.net_or_open.ensures))
