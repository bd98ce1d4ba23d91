use Rattle.vpr_files.proofs.Prelude.{◌∙◌, sym, ap, Block, net_name, text_of, block_lines, writes_same}
use Rattle.vpr_files.proofs.ClusterLemmas.{by_circuit}
use Rattle.vpr_files.proofs.TextLemmas.{input_text, output_text}
use Rattle.vpr_files.proofs.net_file.write_block.Goals as goal

pub returns-in-InputPad : goal.returns-in-InputPad
returns-in-InputPad g c =
    let net = c.in-InputPad.net in
    writes_same g.W.Sink.contents g.W.Sink.has_failed _ _ _ _ c.write_slices.result
    (input_text c.args.packed.now net c.net_name-name.result.now (by_circuit (λ circuit. net_name circuit net) c.net_name-name.result.now c.circuit-circuit.result.now c.args.packed.now.circuit c.net_name-name.ensures c.circuit-circuit.ensures.value)
    ∙ ap (λ (block : Block). text_of (block_lines c.args.packed.now block)) (sym c.in-InputPad.is))
    c.write_slices.ensures

pub returns-in-OutputPad : goal.returns-in-OutputPad
returns-in-OutputPad g c =
    let net = c.in-OutputPad.net in
    writes_same g.W.Sink.contents g.W.Sink.has_failed _ _ _ _ c.write_slices-in-OutputPad.result
    (output_text c.args.packed.now net c.net_name-name-in-OutputPad.result.now (by_circuit (λ circuit. net_name circuit net) c.net_name-name-in-OutputPad.result.now c.circuit-circuit.result.now c.args.packed.now.circuit c.net_name-name-in-OutputPad.ensures c.circuit-circuit.ensures.value)
    ∙ ap (λ (block : Block). text_of (block_lines c.args.packed.now block)) (sym c.in-OutputPad.is))
    c.write_slices-in-OutputPad.ensures
