use Rattle.one_user.proofs.Routings.{same_told}
use Rattle.one_user.proofs.law.same_files.Goals as goal

pub returns : goal.returns
returns c = same_told
