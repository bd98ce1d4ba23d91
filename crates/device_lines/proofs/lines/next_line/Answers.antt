use Rattle.device_lines.proofs.ReadLemmas.{split_first, split_whole}
use Rattle.device_lines.proofs.lines.next_line.Goals as goal

pub returns-in-Some-clause-lines : goal.returns-in-Some-clause-lines
returns-in-Some-clause-lines c = split_first c.args.text.now c.in-Some.end c.in-Some.ensures

pub returns-in-None-clause-lines : goal.returns-in-None-clause-lines
returns-in-None-clause-lines c = split_whole c.args.text.now c.in-None.ensures
