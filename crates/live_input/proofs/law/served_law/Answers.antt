use Rattle.live_input.proofs.Prelude.{answered_append, AnswersLine}
use Rattle.live_input.proofs.TakenLemmas.{are_taken}
use Rattle.live_input.proofs.law.served_law.Goals as goal

pub returns-clause-taken : goal.returns-clause-taken
returns-clause-taken c = are_taken

pub returns-clause-one : goal.returns-clause-one
returns-clause-one c = answered_append AnswersLine
