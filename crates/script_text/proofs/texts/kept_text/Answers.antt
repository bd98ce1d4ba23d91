use Rattle.script_text.proofs.Prelude.{◌≡◌, ◌++◌, ◌∷◌, [], length, sym, ap, ◌∙◌, append-nil, rules, physical_lines, kept_part, without_cr, flat_map, kept-all}
use Rattle.script_text.proofs.LineLemmas.{ended_line, kept-short, kept_line, no_cr, no_lines, without_crs-none}
use Rattle.script_text.proofs.texts.kept_text.Goals as goal

pub returns-then-is_none : goal.returns-then-is_none
returns-then-is_none c =
    let none = no_cr c.args.ahead.now (search rules) in
    rw (without_crs-none c.args.ahead.now c.requires none, ← kept-short c.args.ahead.now) (search rules)

pub loop-rest-preserved : goal.loop-rest-preserved
loop-rest-preserved c =
    let line = c.split_line.result.0.now in
    let first : c.append_kept.new.text.items ≡ kept_part (c.loop-rest.text.items ++ without_cr line) = search rules in
    let next : c.append_kept-in-loop-rest.new.text.items ≡ kept_part (c.append_kept.new.text.items ++ 10 ∷ []) = search rules in
    let lines : physical_lines c.loop-rest.rest.now ≡ line ∷ physical_lines c.split_line.result.1.now = c.split_line.ensures.lines (search rules) in
    record {
      within = search rules;
      same = kept_line c.loop-rest.text.items line c.split_line.result.1.now c.append_kept-in-loop-rest.new.text.items (physical_lines c.loop-rest.rest.now) lines
          (sym (next ∙ ap (λ t. kept_part (t ++ 10 ∷ [])) first))
          ∙ c.loop-rest.invariant.same;
    }

pub returns : goal.returns
returns c =
    let none : length c.loop-rest.rest.now ≡ 0 = search rules in
    sym (kept-all c.loop-rest.text.items (search rules)) ∙ ap kept_part (sym (append-nil c.loop-rest.text.items))
    ∙ ap (λ ls. kept_part (c.loop-rest.text.items ++ flat_map ended_line ls)) (sym (no_lines c.loop-rest.rest.now none)) ∙ c.loop-rest.invariant.same
