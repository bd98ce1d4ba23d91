use Rattle.front_lines.proofs.LawLemmas.{own, whole}
use Rattle.front_lines.proofs.law.only_own_lines.Goals as goal

pub returns : goal.returns
returns c = record { own = own; whole = whole }
