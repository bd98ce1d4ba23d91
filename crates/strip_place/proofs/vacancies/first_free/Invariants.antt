use Rattle.strip_place.proofs.Prelude.{length, ◌-◌}
use Rattle.strip_place.proofs.Marks.{IsSearching}
use Rattle.strip_place.proofs.vacancies.first_free.Given as goal

abbrev pub invariant-loop-site : goal.invariant-loop-site
invariant-loop-site l = IsSearching l.marks l.fn.from l.site

abbrev pub decreases-loop-site : goal.decreases-loop-site
decreases-loop-site l = length l.marks - l.site
