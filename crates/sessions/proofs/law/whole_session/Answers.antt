use Rattle.sessions.proofs.WholeSessionLemmas.{one_tenancy, turns_told}
use Rattle.sessions.proofs.law.whole_session.Goals as goal

pub returns-clause-one : goal.returns-clause-one
returns-clause-one c = one_tenancy

pub returns-clause-any : goal.returns-clause-any
returns-clause-any c = turns_told
