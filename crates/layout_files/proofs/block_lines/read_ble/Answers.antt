use Rattle.layout_files.proofs.Prelude.{◌∷◌, ◌++◌, ◌∙◌, ap, codes, decimal, refl, Some, sym, subst, length, ◌≤◌, net_name, or_open, word_after_space, left_after, inputs_text}
use Rattle.layout_files.proofs.Reading.{net_plain}
use Rattle.layout_files.proofs.ReadingNets.{inputs_stop, same_ble}
use Rattle.layout_files.proofs.block_lines.read_ble.Goals as goal

pub returns-clause-read : goal.returns-clause-read
returns-clause-read c = λ circuit arch ble after same size names fits e.
    let clocks = word_after_space (or_open decimal ble.clock) ++ (10 ∷ after) in
    let outputs = or_open decimal ble.output ++ clocks in
    let sized = c.expect.ensures ∙ e ∙ ap (λ n. Some (net_name circuit ble.name ++ (inputs_text ble.inputs 0 n ++ (32 ∷ outputs)))) (sym size) in
    let word = c.word-word.ensures.read (net_name circuit ble.name) (inputs_text ble.inputs 0 c.args.context.lut_size ++ (32 ∷ outputs)) (net_plain circuit ble.name names) (inputs_stop ble.inputs 0 c.args.context.lut_size outputs) sized in
    let name = c.net_named-name.ensures.read circuit ble.name same names fits.name word.0 in
    let inputs = c.in_ok-inputs.ensures.read ble.inputs outputs fits.inputs (subst (λ n. length ble.inputs ≤ n) (sym size) fits.narrow) (name.1 ∙ word.1) in
    let output = c.read_pin-output.ensures.read ble.output clocks fits.output refl inputs.1 in
    let clock = c.read_pin-clock.ensures.read ble.clock (10 ∷ after) fits.clock refl output.1 in
    (c.new.ensures ∙ same_ble ble c.net_named-name.result _ c.read_pin-output.result c.read_pin-clock.result name.0 inputs.0 output.0 clock.0, c.text.ensures.left ∙ ap (λ v. left_after v (codes "\n")) clock.1)
