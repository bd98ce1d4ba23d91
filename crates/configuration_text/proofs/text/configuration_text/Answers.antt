use Rattle.configuration_text.proofs.Prelude.{◌∙◌, ◌++◌, ap, List, flat_map, [], ℕ, block_lines, configuration_of, global_lines, switch_lines, lines_text, line_of, line_words, Device, LaidNet}
use Rattle.configuration_text.proofs.Texts.{whole_written}
use Rattle.configuration_text.proofs.text.configuration_text.Goals as goal

pub returns : goal.returns
unfolding configuration_of
returns c =
    let strip = c.args.design.strip in
    let arch = c.args.design.arch.now in
    let layout = c.args.design.layout.now in
    whole_written (Device strip.width strip.rows arch.tracks arch.lut_size) (flat_map (block_lines c.args.design.netlist.now c.args.design.circuit.now c.args.design.arch.now c.args.design.layout.now) layout.blocks) (global_lines arch layout) (flat_map switch_lines layout.nets) []
    c.push_device.new.text.items c.push_blocks.new.text.items c.push_globals.new.text.items c.push_nets.new.text.items
    (c.in_ok-push_device.ensures ∙ ap (λ (t : List ℕ). t ++ line_of (line_words (Device strip.width strip.rows arch.tracks arch.lut_size))) c.new-text.ensures.items) c.in_ok-push_blocks.ensures c.in_ok-push_globals.ensures
    (c.in_ok-push_nets.ensures ∙ ap (λ (nets : List LaidNet). c.push_globals.new.text.items ++ lines_text (flat_map switch_lines nets)) c.nets.ensures)
