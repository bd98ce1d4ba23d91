use Rattle.line_service.proofs.TalkLemmas.{answered_append}
use Rattle.line_service.proofs.laws.laws_of_lines.Goals as goal

pub returns : goal.returns
returns g c = answered_append g.A.Answers.answers
