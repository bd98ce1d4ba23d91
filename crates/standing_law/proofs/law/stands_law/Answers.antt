use Rattle.standing_law.proofs.Alike.{alike_self, goes_on, left_out, withdrawn}
use Rattle.standing_law.proofs.law.stands_law.Goals as goal

pub returns : goal.returns
returns c = record { goes_on = goes_on; left_out = left_out; void = withdrawn; same = alike_self }
