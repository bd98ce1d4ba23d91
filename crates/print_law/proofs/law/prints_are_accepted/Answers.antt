use Rattle.print_law.proofs.Prelude.{run}
use Rattle.print_law.proofs.Verdicts.{accepted}
use Rattle.print_law.proofs.law.prints_are_accepted.Goals as goal

pub returns : goal.returns
returns c = λ arch strip events texts verdict known size routed none_open are verdict_is.
    accepted (run arch strip events).0 (c.prints_are_filed.ensures arch strip events known size routed) none_open texts are verdict verdict_is
