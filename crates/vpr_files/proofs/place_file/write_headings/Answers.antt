use Rattle.vpr_files.proofs.Prelude.{◌∙◌, ap, Circuit, writes_same}
use Rattle.vpr_files.proofs.FileTexts.{place_headings_text}
use Rattle.vpr_files.proofs.place_file.write_headings.Goals as goal

pub returns : goal.returns
returns g c =
    writes_same g.W.Sink.contents g.W.Sink.has_failed _ _ _ _ c.write_slices.result
    (place_headings_text c.args.strip c.args.packed.now c.as_bytes.result.now c.as_bytes-2.result.now c.as_bytes-3.result.now
    (c.as_bytes.ensures ∙ ap (λ (circuit : Circuit). circuit.model) c.circuit.ensures.value) (c.as_bytes-2.ensures.value ∙ c.format.ensures.text) (c.as_bytes-3.ensures.value ∙ c.format-2.ensures.text))
    c.write_slices.ensures
