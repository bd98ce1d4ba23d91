use Rattle.tagged_lines.proofs.TagLemmas.{apart, back, lines, same, whole}
use Rattle.tagged_lines.proofs.law.told_apart.Goals as goal

pub returns : goal.returns
returns c = record { apart = apart; back = back; same = same; lines = lines; whole = whole }
