use Rattle.script_text.proofs.Prelude.{◌≡◌, ◌++◌, ap, codes, append_assoc, rules, map, flat_map, all_same, part_first, part_same, writes_part, writes_same, writes_then, heading, section_of, section_text}
use Rattle.script_text.proofs.replies.RunReplies.write_to.Goals as goal

pub returns-in_err-write_section : goal.returns-in_err-write_section
returns-in_err-write_section g c =
    let replies = c.args.self.now in
    let rest = flat_map section_text (map section_of replies.sections.items) in
    let text : c.as_slice.result.now ≡ replies.operator.items = search rules in
    writes_part c.from_residual.result c.from_residual.ensures.0
    (part_same (part_first rest (part_same c.in_err-write_section.ensures (ap (λ t. heading (codes "op") ++ t) text))) (append_assoc (heading (codes "op")) replies.operator.items rest))

pub returns : goal.returns
returns g c =
    let replies = c.args.self.now in
    let rest = flat_map section_text (map section_of replies.sections.items) in
    let text : c.as_slice.result.now ≡ replies.operator.items = search rules in
    let sections : c.as_slice-2.result.now ≡ replies.sections.items = search rules in
    writes_same g.W.Sink.contents g.W.Sink.has_failed _ _ _ _ c.write_sections.result
    (append_assoc (heading (codes "op")) replies.operator.items rest)
    (writes_then (all_same c.in_ok-write_section.ensures (ap (λ t. heading (codes "op") ++ t) text)) _ rest c.write_sections.result
    (writes_same g.W.Sink.contents g.W.Sink.has_failed _ _ _ _ c.write_sections.result (ap (λ ss. flat_map section_text (map section_of ss)) sections) c.write_sections.ensures))
