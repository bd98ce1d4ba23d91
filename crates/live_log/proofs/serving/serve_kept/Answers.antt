use Rattle.live_log.proofs.Prelude.{◌≡◌, ◌∷◌, [], ◌<◌, length, refl, rules, arith, ap, ◌∙◌, common_steps, physical_lines, lines_kept}
use Rattle.live_log.proofs.ServingSteps.{counted_if, few_if, leads_all, leads_if, none_chosen, none_left}
use Rattle.live_log.proofs.serving.serve_kept.Goals as goal

pub returns-in_default-clause-number : goal.returns-in_default-clause-number
returns-in_default-clause-number g c =
    let none : lines_kept c.loop-rest.marks.now (physical_lines c.loop-rest.rest.now) ≡ [] = none_left (λ marks. lines_kept marks (physical_lines c.loop-rest.rest.now)) refl c.loop-rest.marks.now c.in_default.ensures.cases in
    omega (arith, ap length none, c.loop-rest.invariant.counted)

pub returns-in_default-clause-served : goal.returns-in_default-clause-served
returns-in_default-clause-served g c =
    leads_all c.loop-rest.service c.loop-rest.number _ c.loop-rest.invariant.served
    (none_left (λ marks. lines_kept marks (physical_lines c.loop-rest.rest.now)) refl c.loop-rest.marks.now c.in_default.ensures.cases)

pub loop-rest-preserved : goal.loop-rest-preserved
loop-rest-preserved g c =
    let first : c.loop-rest.marks.now ≡ c.in-Some.kept.now ∷ c.in-Some.others.now = c.in-Some.ensures.cases.0 in
    let lines : physical_lines c.loop-rest.rest.now ≡ c.split_line.result.0.now ∷ physical_lines c.split_line.result.1.now = c.split_line.ensures.lines (search rules) in
    let less : length c.split_line.result.1.now < length c.loop-rest.rest.now = grind (arith, common_steps) in
    record {
      ready = c.in_ok-number.ensures.ready;
      few = few_if g.A.Answers.answers _ _ c.loop-rest.number _ _ _ _ c.in-Some.kept.now _ c.in_ok-number.ensures.served c.loop-rest.invariant.few less;
      counted = counted_if g.A.Answers.answers c.loop-rest.service c.serve_if.new.service c.loop-rest.number c.in_ok-number.number c.in-Some.kept.now c.loop-rest.marks.now c.in-Some.others.now c.split_line.result.0.now (physical_lines c.loop-rest.rest.now) (physical_lines c.split_line.result.1.now) _ c.in_ok-number.ensures.served first lines c.loop-rest.invariant.counted;
      served = leads_if c.loop-rest.service c.serve_if.new.service c.loop-rest.number c.in_ok-number.number c.in-Some.kept.now c.loop-rest.marks.now c.in-Some.others.now c.split_line.result.0.now (physical_lines c.loop-rest.rest.now) (physical_lines c.split_line.result.1.now) c.loop-rest.invariant.served first lines c.in_ok-number.ensures.served;
    }

pub returns-clause-number : goal.returns-clause-number
returns-clause-number g c =
    let none : lines_kept c.loop-rest.marks.now (physical_lines c.loop-rest.rest.now) ≡ [] = ap (λ lines. lines_kept c.loop-rest.marks.now lines) (none_left physical_lines refl c.loop-rest.rest.now (search rules)) ∙ none_chosen c.loop-rest.marks.now in
    omega (arith, ap length none, c.loop-rest.invariant.counted)

pub returns-clause-served : goal.returns-clause-served
returns-clause-served g c =
    leads_all c.loop-rest.service c.loop-rest.number _ c.loop-rest.invariant.served
    (ap (λ lines. lines_kept c.loop-rest.marks.now lines) (none_left physical_lines refl c.loop-rest.rest.now (search rules)) ∙ none_chosen c.loop-rest.marks.now)
