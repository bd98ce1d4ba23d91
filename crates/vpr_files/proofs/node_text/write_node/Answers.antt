use Rattle.vpr_files.proofs.Prelude.{◌∙◌, ◌++◌, ap, codes, number_word, writes_same}
use Rattle.vpr_files.proofs.FileTexts.{node_text}
use Rattle.vpr_files.proofs.node_text.write_node.Goals as goal

pub returns : goal.returns
returns g c =
    writes_same g.W.Sink.contents g.W.Sink.has_failed _ _ _ _ c.write_slices.result
    (node_text c.args.rows c.args.node c.kind_start.result.now c.as_bytes.result.now c.as_bytes-2.result.now c.number_start.result.now c.as_bytes-3.result.now
    c.kind_start.ensures (c.as_bytes.ensures.value ∙ c.format.ensures.text) (c.as_bytes-2.ensures.value ∙ c.format-2.ensures.text)
    (c.number_start.ensures ∙ ap (λ pad. codes ") " ++ number_word c.args.node.kind pad ++ codes " ") c.is_pad_row.ensures)
    (c.as_bytes-3.ensures.value ∙ c.format-3.ensures.text))
    c.write_slices.ensures
