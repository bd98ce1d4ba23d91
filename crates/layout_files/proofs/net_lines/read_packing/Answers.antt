use Rattle.layout_files.proofs.Prelude.{◌∙◌, ap, flat_map, refl, Some, sym, laid_lines, text_of}
use Rattle.layout_files.proofs.Finding.{given}
use Rattle.layout_files.proofs.Lines.{net_parts}
use Rattle.layout_files.proofs.ReadingNets.{blocks_stop}
use Rattle.layout_files.proofs.net_lines.read_packing.Goals as goal

pub returns : goal.returns
returns c = λ circuit arch layout same size names fits form places e.
    let start = c.new-cursor.ensures ∙ ap Some (e ∙ sym (net_parts circuit arch layout layout.globals layout.blocks refl refl)) in
    let globals = c.in_ok-globals.ensures circuit layout.globals (text_of (flat_map (laid_lines circuit arch) layout.blocks)) same names fits.globals (blocks_stop circuit arch layout.blocks) start in
    let blocks = c.in_ok-blocks.ensures circuit arch layout.blocks same size names fits.blocks form.blocks fits.numbered fits.few_blocks places globals.1 in
    given c.finish.result _ _ (c.finish.ensures blocks.1) (globals.0, blocks.0)
