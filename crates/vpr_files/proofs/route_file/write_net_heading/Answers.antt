use Rattle.vpr_files.proofs.Prelude.{◌∙◌, writes_same}
use Rattle.vpr_files.proofs.FileTexts.{global_heading_text, local_heading_text}
use Rattle.vpr_files.proofs.route_file.write_net_heading.Goals as goal

pub returns-then-global : goal.returns-then-global
returns-then-global g c =
    writes_same g.W.Sink.contents g.W.Sink.has_failed _ _ _ _ c.write_slices.result
    (global_heading_text c.args.number c.args.global c.as_bytes-digits.result.now c.args.name.now c.if-global.true (c.as_bytes-digits.ensures.value ∙ c.format.ensures.text))
    c.write_slices.ensures

pub returns-else-global : goal.returns-else-global
returns-else-global g c =
    writes_same g.W.Sink.contents g.W.Sink.has_failed _ _ _ _ c.write_slices-else-global.result
    (local_heading_text c.args.number c.args.global c.as_bytes-digits.result.now c.args.name.now c.if-global.false (c.as_bytes-digits.ensures.value ∙ c.format.ensures.text))
    c.write_slices-else-global.ensures
