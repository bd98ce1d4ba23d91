use Rattle.strip_place.proofs.Prelude.{◌≡◌, drop, marks_with}
use Rattle.strip_place.proofs.vacancies.mark.Given as goal

abbrev pub invariant-loop-site : goal.invariant-loop-site
invariant-loop-site l = marks_with l.marks (drop l.site-index l.kept) ≡ marks_with l.initial.marks l.kept
