use Rattle.sessions.proofs.WaitLemmas.{wait_left}
use Rattle.sessions.proofs.law.wait_ends.Goals as goal

pub returns : goal.returns
returns c = wait_left
