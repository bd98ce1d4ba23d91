use Rattle.script_text.proofs.Prelude.{◌≡◌, ◌≤◌, ◌∙◌, ◌++◌, Some, ap, get_or, slice_get, length, sym, arith, rules, slice_get-get_or, flat_map-map, all_loop, all_loop_end, all_same, part_loop, part_same, writes_part, heading, section_of, section_text}
use Rattle.script_text.proofs.replies.write_sections.Goals as goal

pub returns-in_err-write_section : goal.returns-in_err-write_section
returns-in_err-write_section g c =
    let is : c.section-item.result ≡ get_or c.args.sections.now c.loop-section.section-index c.section-item.result = search rules in
    let text : c.as_slice.result.now ≡ c.section-item.result.text.items = search rules in
    let at : slice_get c.args.sections.now c.loop-section.section-index ≡ Some c.section-item.result =
    slice_get-get_or c.args.sections.now c.loop-section.section-index c.section-item.result c.loop-section-test.true ∙ ap Some (sym is) in
    writes_part c.from_residual.result c.from_residual.ensures.0
    (part_same (part_loop (λ s. section_text (section_of s)) c.args.sections.now c.loop-section.section-index c.section-item.result at c.loop-section.invariant
    (part_same c.in_err-write_section.ensures (ap (λ t. heading c.section-item.result.name.now ++ t) text)))
    (sym (flat_map-map section_text section_of c.args.sections.now)))

pub loop-section-preserved : goal.loop-section-preserved
loop-section-preserved g c =
    let is : c.section-item.result ≡ get_or c.args.sections.now c.loop-section.section-index c.section-item.result = search rules in
    let text : c.as_slice.result.now ≡ c.section-item.result.text.items = search rules in
    let at : slice_get c.args.sections.now c.loop-section.section-index ≡ Some c.section-item.result =
    slice_get-get_or c.args.sections.now c.loop-section.section-index c.section-item.result c.loop-section-test.true ∙ ap Some (sym is) in
    all_loop (λ s. section_text (section_of s)) c.args.sections.now c.loop-section.section-index c.section-item.result at c.loop-section.invariant
    (all_same c.in_ok-write_section.ensures (ap (λ t. heading c.section-item.result.name.now ++ t) text))

pub returns : goal.returns
returns g c =
    let past : length c.args.sections.now ≤ c.loop-section.section-index = (let t = c.loop-section-test.false in omega (arith, t)) in
    all_same (all_loop_end (λ s. section_text (section_of s)) c.args.sections.now c.loop-section.section-index past c.loop-section.invariant)
    (sym (flat_map-map section_text section_of c.args.sections.now))
