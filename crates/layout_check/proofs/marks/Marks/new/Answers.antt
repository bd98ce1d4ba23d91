use Rattle.layout_check.proofs.Stamps.{none_stamped}
use Rattle.layout_check.proofs.Prelude.{◌∙◌, ap, map, eqb}
use Rattle.layout_check.proofs.marks.Marks.new.Goals as goal

pub returns : goal.returns
returns c = ap (map (λ stamp. eqb stamp 1)) c.in_ok-zeros.ensures ∙ none_stamped c.args.count
