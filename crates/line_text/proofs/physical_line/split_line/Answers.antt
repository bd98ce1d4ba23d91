use Rattle.line_text.proofs.Prelude.{◌≡◌, ◌+◌, ◌-◌, ◌∷◌, ◌∙◌, length, take, drop, sym, arith, rules, common_steps, physical_lines, first_line, later_lines}
use Rattle.line_text.proofs.LineLemmas.{physical_lines-first}
use Rattle.line_text.proofs.physical_line.split_line.Goals as goal

pub returns-in-Some-clause-lines : goal.returns-in-Some-clause-lines
returns-in-Some-clause-lines c =
    let text = c.args.text.now in
    let end = c.in-Some.end in
    let first : take end text ≡ first_line text = search rules in
    let later : take (length text - (end + 1)) (drop (end + 1) text) ≡ later_lines text = grind (arith, common_steps) in
    λ some. physical_lines-first text some ∙ (λ i. sym first i ∷ physical_lines (sym later i))

pub returns-in-None-clause-lines : goal.returns-in-None-clause-lines
returns-in-None-clause-lines c =
    let text = c.args.text.now in
    let first : c.split_at.result.0.now ≡ first_line text = grind (arith, common_steps) in
    let later : c.split_at.result.1.now ≡ later_lines text = grind (arith, common_steps) in
    λ some. physical_lines-first text some ∙ (λ i. sym first i ∷ physical_lines (sym later i))
