use Rattle.sessions.proofs.EndToEndLemmas.{line_told}
use Rattle.sessions.proofs.law.end_to_end.Goals as goal

pub returns : goal.returns
returns c = line_told
