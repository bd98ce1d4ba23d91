use Rattle.replies_law.proofs.Scripts.{is_the_same}
use Rattle.replies_law.proofs.law.own_lines_alone.Goals as goal

pub returns : goal.returns
returns c = is_the_same
