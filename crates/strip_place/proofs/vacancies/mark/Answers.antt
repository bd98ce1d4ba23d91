use Rattle.strip_place.proofs.Prelude.{◌+◌, ◌∙◌, Bool, List, None, drop, ap, sym, mark_at, marks_with}
use Rattle.strip_place.proofs.Marks.{marked_all, marked_more}
use Rattle.strip_place.proofs.vacancies.mark.Goals as goal
use Rattle.strip_place.proofs.vacancies.mark.Goals.{in-Some, in_default}

pub loop-site-preserved : goal.loop-site-preserved
loop-site-preserved c =
    let kept = c.args.kept.now in
    let index = c.loop-site.site-index in
    let rest = drop (index + 1) kept in
    let more = marked_more c.loop-site.marks kept index None c.loop-site-test.true in
    elim c.match-site.branch [
      | in-Some w ↦ ap (λ (marks : List Bool). marks_with marks rest) (w.marks-is ∙ sym (ap (mark_at c.loop-site.marks) w.in-Some.is)) ∙ (sym more ∙ c.loop-site.invariant)
      | in_default w ↦ ap (λ (marks : List Bool). marks_with marks rest) (w.marks-is ∙ sym (ap (mark_at c.loop-site.marks) w.in_default.is)) ∙ (sym more ∙ c.loop-site.invariant)
    ]

pub returns : goal.returns
returns c = sym (marked_all c.loop-site.marks c.args.kept.now c.loop-site.site-index c.loop-site-test.false) ∙ c.loop-site.invariant
