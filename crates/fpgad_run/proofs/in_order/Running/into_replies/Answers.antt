use Rattle.fpgad_run.proofs.Prelude.{◌≡◌, ◌∙◌, ap, map, MemorySink, sink_text, output_of, section_of, sections_in, Sections}
use Rattle.fpgad_run.proofs.SectionLemmas.{held_as}
use Rattle.fpgad_run.proofs.in_order.Running.into_replies.Goals as goal

pub returns-in-Ok : goal.returns-in-Ok
returns-in-Ok c =
    let running = c.args.self in
    let bytes : c.into_bytes.result.items ≡ sink_text c.end-operator.result.0 = held_as c.end-operator.result.0 c.into_bytes.result.items c.into_bytes.ensures in
    let text : c.into_bytes.result.items ≡ sink_text running.operator_text = bytes ∙ ap (λ (s : MemorySink). sink_text s) c.end-operator.ensures.0 in
    ap (λ o. output_of o (map section_of c.in-Ok.sections.items)) text
    ∙ ap (output_of (sink_text running.operator_text)) (c.in-Ok.ensures ∙ ap (λ (s : Sections). sections_in s) c.end-operator.ensures.1)
