use Rattle.live_log.proofs.ChoiceSteps.{chosen_length}
use Rattle.live_log.proofs.shortening.shorten.Goals as goal

pub returns-clause-marks : goal.returns-clause-marks
returns-clause-marks g c = chosen_length g.A.Answers.answers _ 1 _ _ _ _ c.in_ok-kept.ensures.chosen
